-- Latest answers what the history fixes.
use Rattle.std.proofs.Common.{◌≡◌, ℕ, suc, ◌+◌, ◌<◌, ◌≤◌, List, ◌++◌, length, None, Ok, Err, sym, refl, ap, ◌∙◌, subst, arith, w64, Fits}
use Rattle.std.proofs.lemmas.Bool.{ltb-true}
use Rattle.charts.specs.declared.parts.Event.{Event}
use Rattle.charts.specs.Lists.{count_of, size}
use Rattle.charts.specs.Sound.{Sound}
use Rattle.media.specs.Carry.{Carry}
use Rattle.orders.specs.Histories.{pos}
use Rattle.orders.specs.May.{May}
use Rattle.orders.specs.Orders.{Order}
use Rattle.orders.specs.Latest.{Other, Latest}
use Rattle.orders.specs.Deciding.{unfinished, may_now_at}
use Rattle.orders.specs.Driving.{lowest, moved_by, driven, other_now}
use Rattle.orders.proofs.Lowest.{lowest_passes}
use Rattle.orders.proofs.Driving.{moved_by_pos}
use Rattle.orders.proofs.Onwards.{onwards_weaker, onwards_steps}
use Rattle.orders.proofs.Verdicts.{none_unfinished, driven_order, driven_stuck}
use Rattle.orders.proofs.LatestPlace.{driven_blocked, driven_latest}
use Rattle.rules.specs.declared.row.Row.{Row}
use Rattle.rules.specs.Places.{place_of}
use Rattle.copies.specs.declared.indexed.Indexed.{Indexed}
use Rattle.copies.specs.Kept.{kept}
use Rattle.rules.specs.Held.{held_now}
use Rattle.rules.specs.Made.{steps_made}
use Rattle.rules.proofs.Made.{made_most}
use Rattle.runs.specs.Stands.{Stands}
use Rattle.runs.specs.declared.parts.Refusal.TheVariants.{NoFullOrder}
use Rattle.runs.specs.Latests.{LatestAnswers, no_full_order}
use Rattle.runs.proofs.Telling.{standing}

-- where rows stand that have made the steps w since they stood after h
pub stands_on : (rows after : List Row) (h w : List ℕ) → Stands rows h → ((j : ℕ) → place_of after j ≡ moved_by (place_of rows) w j) → Stands after (h ++ w)
stands_on rows after h w s moves j =
    moves j ∙ ap (λ (p : ℕ → ℕ). moved_by p w j) (standing rows h s) ∙ ap (λ (p : ℕ → ℕ). p j) (moved_by_pos h w)

module _ (M : Carry) (L : List (List Event)) (sound : Sound L) (rows mid end : List Row) (i k n m : ℕ) (enough : size L ≤ n) (enough' : size L ≤ m)
    (held : (j : ℕ) → place_of mid j ≡ moved_by (place_of rows) (driven (other_now M L i k) (length L) n (place_of rows)) j)
    (ends : (j : ℕ) → place_of end j ≡ moved_by (place_of mid) (driven (may_now_at M L) (length L) m (place_of mid)) j)
    (h : List ℕ) (stands : Stands rows h) (high : k < count_of L i) (low : place_of rows i ≤ k) where
  abbrev u : List ℕ
  u = driven (other_now M L i k) (length L) n (place_of rows)

  abbrev v : List ℕ
  v = driven (may_now_at M L) (length L) m (place_of mid)

  u_is : u ≡ driven (other_now M L i k) (length L) n (pos h)
  u_is = ap (driven (other_now M L i k) (length L) n) (standing rows h stands)

  mid_stands : Stands mid (h ++ u)
  mid_stands = stands_on rows mid h u stands held

  v_is : v ≡ driven (may_now_at M L) (length L) m (pos (h ++ u))
  v_is = ap (driven (may_now_at M L) (length L) m) (standing mid (h ++ u) mid_stands)

  end_is : place_of end ≡ pos ((h ++ u) ++ driven (may_now_at M L) (length L) m (pos (h ++ u)))
  end_is = standing end ((h ++ u) ++ v) (stands_on mid end (h ++ u) v mid_stands ends) ∙ ap (λ (w : List ℕ). pos ((h ++ u) ++ w)) v_is

  here : pos h i ≤ k
  here = let s = stands i in omega arith

  module _ (order : Order M L h) where
    mid_order : Order M L (h ++ u)
    mid_order =
        let b = driven_blocked M L sound h order i k n (omega arith) in
        subst (λ (w : List ℕ). Order M L (h ++ w)) (sym u_is)
        (onwards_steps (May M L) h (driven (other_now M L i k) (length L) n (pos h)) order
        (onwards_weaker (Other (May M L) i k) (May M L) (λ g j o. o.can) h (driven (other_now M L i k) (length L) n (pos h)) b.steps))

  pub latest_place_is : (answer : ℕ) → length L ≤ lowest (unfinished L (place_of end)) (length L) → answer ≡ suc (length h + length u) → LatestAnswers M L h i k (Ok answer)
  latest_place_is answer done is = (
    high,
    here,
    λ order.
        let v' = driven (may_now_at M L) (length L) m (pos (h ++ u)) in
        let full = none_unfinished M L sound ((h ++ u) ++ v') (driven_order M L sound (h ++ u) (mid_order order) m)
        (subst (λ (p : ℕ → ℕ). length L ≤ lowest (unfinished L p) (length L)) end_is done) in
        subst (Latest M L h i k) (sym (is ∙ ap (λ (w : List ℕ). suc (length h + length w)) u_is))
        (driven_latest M L sound h order i k here high ((h ++ u) ++ v') full n (omega arith)),
  )

  pub latest_is_none : lowest (unfinished L (place_of end)) (length L) < length L → LatestAnswers M L h i k (Err NoFullOrder)
  latest_is_none some =
      let left = subst (λ (p : ℕ → ℕ). lowest (unfinished L p) (length L) < length L) end_is some in
      let p = pos ((h ++ u) ++ driven (may_now_at M L) (length L) m (pos (h ++ u))) in
      let x = lowest (unfinished L p) (length L) in
      no_full_order refl high here
      (λ order. driven_stuck M L sound (h ++ u) (mid_order order) m (omega arith) x (ltb-true (p x) (count_of L x) (lowest_passes (unfinished L p) (length L) left)))

-- the numbers that latest adds are small
pub made_few : (L : List (List Event)) → Sound L → (p : ℕ → ℕ) → ((i : ℕ) → p i ≤ count_of L i) → (a : ℕ) → a ≡ steps_made L p → a ≤ 4096
made_few L sound p within a is = let m = made_most L p within in let few = sound.few_events in omega arith

pub place_fits : (a b : ℕ) → a ≤ 4096 → b ≤ 4096 → Fits w64 (a + b)
place_fits a b h k = omega arith

pub place_fits_more : (a b : ℕ) → a ≤ 4096 → b ≤ 4096 → Fits w64 (a + b + 1)
place_fits_more a b h k = omega arith

pub one_more : (a b x y : ℕ) → a ≡ x → b ≡ y → a + b + 1 ≡ suc (x + y)
one_more a b x y p q = omega arith

-- what a second drive makes, in terms of the same copy
pub ends_level : (M : Carry) (x y : Indexed) → x ≡ y → (mid end : List Row) (m : ℕ) →
    ((j : ℕ) → place_of end j ≡ moved_by (place_of mid) (driven (held_now M (kept x) None) (length (kept x)) m (place_of mid)) j) →
    (j : ℕ) → place_of end j ≡ moved_by (place_of mid) (driven (may_now_at M (kept y)) (length (kept y)) m (place_of mid)) j
ends_level M x y same mid end m moves j =
    moves j ∙ ap (λ (z : Indexed). moved_by (place_of mid) (driven (held_now M (kept z) None) (length (kept z)) m (place_of mid)) j) same

pub room : {a n : ℕ} → a ≤ 4096 → n ≡ 4096 → a ≤ n
room few long = omega arith

pub below_count : {k a b : ℕ} → k < a → a ≡ b → k < b
below_count l e = omega arith

pub at_least : {k a b : ℕ} → a ≤ k → a ≡ b → b ≤ k
at_least l e = omega arith
