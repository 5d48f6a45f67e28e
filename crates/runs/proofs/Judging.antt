-- Judge answers and writes what the history fixes.
use Rattle.std.proofs.Common.{◌≡◌, ℕ, zero, suc, ◌+◌, ◌-◌, ◌<◌, ◌≤◌, true, false, leb, List, ◌++◌, length, Ok, sym, refl, ap, ◌∙◌, subst, arith}
use mathlib.Core.Path.{fun_ext}
use Rattle.std.proofs.lemmas.Bool.{leb-true, ltb-true, le-leb, and_parts, and_from, both_ways}
use Rattle.charts.specs.declared.parts.Event.{Event}
use Rattle.charts.specs.Lists.{count_of, size}
use Rattle.charts.specs.Sound.{Sound}
use Rattle.media.specs.Carry.{Carry}
use Rattle.orders.specs.Histories.{pos}
use Rattle.orders.specs.Orders.{Order, Ended, Full}
use Rattle.orders.specs.Drives.{Lowest}
use Rattle.orders.specs.Deciding.{unfinished, may_now_at}
use Rattle.orders.specs.Driving.{lowest, moved_by, driven}
use Rattle.orders.proofs.Lowest.{lowest_passes}
use Rattle.orders.proofs.Verdicts.{drives, none_unfinished, driven_order, driven_ended, driven_stuck}
use Rattle.rules.specs.declared.row.Row.{Row}
use Rattle.rules.specs.Places.{place_of, Within}
use Rattle.rules.specs.Made.{sum_below, steps_made}
use Rattle.rules.proofs.Made.{made_most, made_length}
use Rattle.rings.specs.Walks.{ring_of}
use Rattle.rings.proofs.Rings.{one_ring_of}
use Rattle.runs.specs.declared.parts.Verdict.TheVariants.{Runs, Stuck}
use Rattle.runs.specs.Rooms.{room_for}
use Rattle.runs.specs.Stands.{Stands}
use Rattle.runs.specs.Drives.{Written}
use Rattle.runs.specs.Verdicts.{JudgeRoom, JudgeAnswers}
use Rattle.runs.proofs.Telling.{standing}
use Rattle.runs.proofs.Places.{stands_on}

-- what is left is the events less the steps made
pub made_within : (L : List (List Event)) (p : ℕ → ℕ) → ((i : ℕ) → p i ≤ count_of L i) → (a b : ℕ) → a ≡ steps_made L p → b ≡ size L → a ≤ b
made_within L p within a b x y = let m = made_most L p within in omega arith

pub left_is : (L : List (List Event)) (p : ℕ → ℕ) → ((i : ℕ) → p i ≤ count_of L i) → (a b : ℕ) → a ≡ steps_made L p → b ≡ size L → b - a + steps_made L p ≡ size L
left_is L p within a b x y = let m = made_most L p within in omega arith

-- positions together with others
sum_add : (p q : ℕ → ℕ) (n : ℕ) → sum_below (λ i. p i + q i) n ≡ sum_below p n + sum_below q n
sum_add p q zero = refl
sum_add p q (suc n) = let r = sum_add p q n in omega arith

-- the steps that a run can still make find room
pub steps_find_room : (L : List (List Event)) (rows after : List Row) (w : List ℕ) → Within L after → ((j : ℕ) → place_of after j ≡ moved_by (place_of rows) w j) →
    length w + steps_made L (place_of rows) ≤ size L
steps_find_room L rows after w within moves =
    let own = made_length L (pos w) w (λ i. let m = moves i in let n = within i in omega arith) (λ i. refl) in
    let all = ap (λ (p : ℕ → ℕ). steps_made L p) (fun_ext moves) in
    let both = sum_add (place_of rows) (pos w) (length L) in
    let most = made_most L (place_of after) within in
    omega arith

module _ (L : List (List Event)) (rows : List Row) (within : Within L rows) (h : List ℕ) (stands : Stands rows h) (out : List ℕ) where
  made_is : steps_made L (place_of rows) ≡ length h
  made_is = made_length L (place_of rows) h within stands

  pub room_there : room_for L (place_of rows) (length out) ≡ true → JudgeRoom L h out
  room_there t =
      let p = and_parts (leb 32 (length out)) (leb (size L) (steps_made L (place_of rows) + length out)) t in
      let a = leb-true 32 (length out) p.0 in
      let b = leb-true (size L) (steps_made L (place_of rows) + length out) p.1 in
      let m = made_is in
      record { ring = a; order = omega arith }

  pub room_missing : room_for L (place_of rows) (length out) ≡ false → JudgeRoom L h out → ⊥
  room_missing f room =
      let m = made_is in
      let a = room.ring in
      let b = room.order in
      both_ways (room_for L (place_of rows) (length out)) f
      (and_from (leb 32 (length out)) (leb (size L) (steps_made L (place_of rows) + length out)) (le-leb 32 (length out) a) (le-leb (size L) (steps_made L (place_of rows) + length out) (omega arith)))

-- a drive to its end after h
module _ (M : Carry) (L : List (List Event)) (sound : Sound L) (rows end : List Row) (within : Within L rows) (n : ℕ) (enough : size L ≤ n)
    (moves : (j : ℕ) → place_of end j ≡ moved_by (place_of rows) (driven (may_now_at M L) (length L) n (place_of rows)) j)
    (out out' : List ℕ) (room : room_for L (place_of rows) (length out) ≡ true) (h : List ℕ) (stands : Stands rows h) where
  abbrev w : List ℕ
  w = driven (may_now_at M L) (length L) n (place_of rows)

  w_is : w ≡ driven (may_now_at M L) (length L) n (pos h)
  w_is = ap (driven (may_now_at M L) (length L) n) (standing rows h stands)

  end_stands : Stands end (h ++ w)
  end_stands = stands_on rows end h w stands moves

  -- what is known of the end by its lowest-first steps
  first_steps : Lowest M L h w
  first_steps = subst (Lowest M L h) (sym w_is) (drives M L sound h n).lowest

  end_order : Order M L h → Order M L (h ++ w)
  end_order order = subst (λ (v : List ℕ). Order M L (h ++ v)) (sym w_is) (driven_order M L sound h order n)

  end_ended : Order M L h → Ended M L (h ++ w)
  end_ended order = subst (λ (v : List ℕ). Ended M L (h ++ v)) (sym w_is) (driven_ended M L sound h order n (omega arith))

  -- every list is done
  pub judge_runs : (k : ℕ) → length L ≤ lowest (unfinished L (place_of end)) (length L) → k ≡ length w → Written w out out' → JudgeAnswers M L h out (Ok (Runs k)) out'
  judge_runs k done long written =
      record {
        room = room_there L rows within h stands out room;
        wrote = (w, long, written);
        judges = λ order. (
          w,
          record {
            lowest = first_steps;
            full = none_unfinished M L sound (h ++ w) (end_order order) (subst (λ (p : ℕ → ℕ). length L ≤ lowest (unfinished L p) (length L)) (standing end (h ++ w) end_stands) done);
            long = long;
            written = written;
          },
        );
      }

  -- an instance has an event left
  pub judge_stuck : (k : ℕ) → lowest (unfinished L (place_of end)) (length L) < length L → k ≡ length (ring_of L (place_of end)) → Written (ring_of L (place_of end)) out out' →
      JudgeAnswers M L h out (Ok (Stuck k)) out'
  judge_stuck k some long written =
      record {
        room = room_there L rows within h stands out room;
        wrote = (ring_of L (place_of end), long, written);
        judges = λ order.
            let one = one_ring_of M L sound (h ++ w) (end_order order) (end_ended order) (place_of end) end_stands some in (
              ring_of L (place_of end),
              record {
                never = never order;
                rest = w;
                lowest = first_steps;
                ended = end_ended order;
                ring_there = one.ring;
                ring_everywhere = λ v o e. one.everywhere (h ++ v) o e;
                long = long;
                written = written;
              },
            );
      }
    where
      never : Order M L h → (f : List ℕ) → Full M L f → ⊥
      never order =
          let v = driven (may_now_at M L) (length L) n (pos h) in
          let p = pos (h ++ v) in
          let x = lowest (unfinished L p) (length L) in
          let same : place_of end ≡ p = standing end (h ++ w) end_stands ∙ ap (λ (u : List ℕ). pos (h ++ u)) w_is in
          let left = subst (λ (q : ℕ → ℕ). lowest (unfinished L q) (length L) < length L) same some in
          driven_stuck M L sound h order n (omega arith) x (ltb-true (p x) (count_of L x) (lowest_passes (unfinished L p) (length L) left))

-- what is written fits the buffer
pub steps_fit : (L : List (List Event)) (rows end : List Row) (w out : List ℕ) → Within L end → ((j : ℕ) → place_of end j ≡ moved_by (place_of rows) w j) →
    room_for L (place_of rows) (length out) ≡ true → (a : ℕ) → a ≡ length w → a ≤ length out
steps_fit L rows end w out within moves room a is =
    let f = steps_find_room L rows end w within moves in
    let p = and_parts (leb 32 (length out)) (leb (size L) (steps_made L (place_of rows) + length out)) room in
    let b = leb-true (size L) (steps_made L (place_of rows) + length out) p.1 in
    omega arith

pub ring_fits : (L : List (List Event)) (p : ℕ → ℕ) (out : List ℕ) → room_for L p (length out) ≡ true → (a : ℕ) → a ≤ 32 → a ≤ length out
ring_fits L p out room a few =
    let q = and_parts (leb 32 (length out)) (leb (size L) (steps_made L p + length out)) room in
    let b = leb-true 32 (length out) q.0 in
    omega arith
