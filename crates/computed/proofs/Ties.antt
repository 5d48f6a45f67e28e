-- The tests agree with the relations.
use Rattle.std.proofs.Common.{◌≡◌, ℕ, Bool, true, not, ◌&&◌, ◌↔◌, ◌<◌, ◌≤◌, eqb, List, [], ◌∷◌, ◌++◌, length, sym, refl, subst, inl, inr, arith}
use Rattle.std.proofs.lemmas.Bool.{and_parts, and_from, eqb-true, eq-eqb, lt-ltb, ltb-true, not-true, not_from_false, cases_lt}
use Rattle.charts.specs.declared.parts.Event.{Event}
use Rattle.charts.specs.Lists.{count_of}
use Rattle.charts.specs.Sound.{Sound}
use Rattle.media.specs.Carry.{Carry}
use Rattle.orders.specs.Histories.{pos}
use Rattle.orders.specs.May.{May, Waits}
use Rattle.orders.specs.Orders.{Order, Ended, Full}
use Rattle.orders.specs.Deciding.{unfinished, may_now, may_now_at, waits_now}
use Rattle.orders.specs.Drives.{Drives}
use Rattle.orders.specs.Rings.{Ring}
use Rattle.orders.specs.Latest.{Latest}
use Rattle.orders.specs.Driving.{lowest, moved, driven, latest_place}
use Rattle.orders.specs.Walking.{ring_at}
use Rattle.orders.proofs.Growing.{steps_none}
use Rattle.orders.proofs.Decided.{waits_unfinished}
use Rattle.orders.proofs.Deciding.{true_may, may_true, waits_now_lem, now_waits}
use Rattle.orders.proofs.Lowest.{lowest_most, lowest_passes}
use Rattle.orders.proofs.Driving.{moved_pos}
use Rattle.orders.proofs.Onwards.{Onwards, onwards_head, onwards_tail, onwards_cons}
use Rattle.orders.proofs.Drives.{found_none}
use Rattle.orders.proofs.Verdicts.{may_tested, none_unfinished, drives, drives_only}
use Rattle.orders.proofs.LatestPlace.{latest_one, latest_place_lem}
use Rattle.orders.proofs.Rings.{left_not_full, lowest_left, one_ring_at_end}
use Rattle.computed.specs.Twins.{order_at, is_order, is_ended, is_full, waits_on}
use Rattle.computed.specs.Computed.{Computed}

module _ (M : Carry) (L : List (List Event)) (sound : Sound L) where
  -- from the positions of a history on, the steps that pass are those that can be made after it
  pub order_at_steps : (w h : List ℕ) → order_at M L (pos h) w ≡ true → Onwards (May M L) h w
  order_at_steps [] h y = steps_none (λ u. May M L (h ++ u))
  order_at_steps (i ∷ w) h y =
      let p = and_parts (may_now_at M L (pos h) i) (order_at M L (moved (pos h) i) w) y in
      onwards_cons (May M L) h i w (may_true M L sound h i p.0)
      (order_at_steps w (h ++ (i ∷ [])) (subst (λ (q : ℕ → ℕ). order_at M L q w ≡ true) (moved_pos h i) p.1))

  pub steps_order_at : (w h : List ℕ) → Onwards (May M L) h w → order_at M L (pos h) w ≡ true
  steps_order_at [] h o = refl
  steps_order_at (i ∷ w) h o =
      and_from (may_now_at M L (pos h) i) (order_at M L (moved (pos h) i) w) (true_may M L sound h i (onwards_head (May M L) h i w o))
      (subst (λ (q : ℕ → ℕ). order_at M L q w ≡ true) (sym (moved_pos h i)) (steps_order_at w (h ++ (i ∷ [])) (onwards_tail (May M L) h i w o)))

  pub may_tie : (h : List ℕ) (i : ℕ) → (may_now M L h i ≡ true) ↔ May M L h i
  may_tie h i = (may_true M L sound h i, true_may M L sound h i)

  pub order_tie : (h : List ℕ) → (is_order M L h ≡ true) ↔ Order M L h
  order_tie h = (order_at_steps h [], steps_order_at h [])

  -- the search below the width for an instance that may run finds none exactly where none may run
  pub ended_tie : (h : List ℕ) → (is_ended M L h ≡ true) ↔ Ended M L h
  ended_tie h = (
    λ y.
        let e = eqb-true first (length L) y in
        found_none (May M L) (may_now_at M L) (length L) (may_tested M L sound) h (omega arith),
    λ ended.
        eq-eqb first (length L)
        (elim (cases_lt first (length L)) [
          | inl l ↦ absurd (ended first (may_true M L sound h first (lowest_passes (may_now_at M L (pos h)) (length L) l)))
          | inr none ↦ let m = lowest_most (may_now_at M L (pos h)) (length L) in omega arith
        ]),
  )
    where
      first : ℕ
      first = lowest (may_now_at M L (pos h)) (length L)

  -- an order is full exactly where the search for an unfinished instance finds none
  pub full_tie : (h : List ℕ) → (is_full M L h ≡ true) ↔ Full M L h
  full_tie h = (
    λ y.
        let p = and_parts (is_order M L h) (eqb first (length L)) y in
        let e = eqb-true first (length L) p.1 in
        none_unfinished M L sound h ((order_tie h).0 p.0) (omega arith),
    λ full.
        and_from (is_order M L h) (eqb first (length L)) ((order_tie h).1 full.order)
        (eq-eqb first (length L)
        (elim (cases_lt first (length L)) [
          | inl l ↦ absurd (left_not_full M L h first (ltb-true (pos h first) (count_of L first) (lowest_passes (unfinished L (pos h)) (length L) l)) full)
          | inr none ↦ let m = lowest_most (unfinished L (pos h)) (length L) in omega arith
        ])),
  )
    where
      first : ℕ
      first = lowest (unfinished L (pos h)) (length L)

  -- an instance waits exactly where it has an event left that may not run, and for the one that is computed
  pub waits_tie : (h : List ℕ) (i j : ℕ) → (waits_on M L h i j ≡ true) ↔ Waits M L h i j
  waits_tie h i j = (
    λ y.
        let p = and_parts (unfinished L (pos h) i) (not may && eqb for j) y in
        let q = and_parts (not may) (eqb for j) p.1 in
        subst (Waits M L h i) (eqb-true for j q.1) (now_waits M L sound h i (ltb-true (pos h i) (count_of L i) p.0) (not-true may q.0)),
    λ w.
        let n = waits_now_lem M L sound h i j w in
        and_from (unfinished L (pos h) i) (not may && eqb for j) (lt-ltb (pos h i) (count_of L i) (waits_unfinished L sound M h i j w))
        (and_from (not may) (eqb for j) (not_from_false may n.0) (eq-eqb for j (sym n.1))),
  )
    where
      may : Bool
      may = may_now_at M L (pos h) i

      for : ℕ
      for = waits_now L (pos h) i

  -- there is one drive, the one that is computed
  pub drives_tie : (h : List ℕ) (n : ℕ) (w : List ℕ) → (w ≡ driven (may_now_at M L) (length L) n (pos h)) ↔ Drives M L h n w
  drives_tie h n w = (λ is. subst (Drives M L h n) (sym is) (drives M L sound h n), drives_only M L sound h n w)

  -- one ring
  pub ring_tie : (e : List ℕ) → Order M L e → Ended M L e → (Full M L e → ⊥) → (r : List ℕ) → (r ≡ ring_at L (pos e)) ↔ Ring M L e r
  ring_tie e order ended stuck r =
      let one = one_ring_at_end M L sound e order ended (lowest_left M L sound e order ended stuck) in
      (λ is. subst (Ring M L e) (sym is) one.ring, one.only r)

  -- and one latest place
  pub latest_tie : (h : List ℕ) → Order M L h → (i k : ℕ) → pos h i ≤ k → k < count_of L i → (f : List ℕ) → Full M L f → (n : ℕ) → (n ≡ latest_place M L h i k) ↔ Latest M L h i k n
  latest_tie h order i k low high f full n =
      let there = latest_place_lem M L sound h order i k low high f full in
      (λ is. subst (Latest M L h i k) (sym is) there, λ l. latest_one M L h i k n (latest_place M L h i k) l there)

pub computed : Computed
computed =
    record {
      may = may_tie;
      order = order_tie;
      ended = ended_tie;
      full = full_tie;
      waits = waits_tie;
      drives = drives_tie;
      ring = ring_tie;
      latest = latest_tie;
    }
