-- At an end that is not full, following the waits from the lowest unfinished instance comes to one ring.
use Rattle.std.proofs.Common.{◌≡◌, ℕ, suc, ◌<◌, ◌≤◌, ltb, List, [], ◌++◌, length, get_or, sym, refl, ap, subst, inl, inr, arith}
use Rattle.std.proofs.lemmas.List.{length-append}
use Rattle.std.proofs.lemmas.Bool.{cases_lt, cases_Bool, cases_order, ltb-true, ltb-false, cond_both}
use Rattle.charts.specs.declared.parts.Event.{Event}
use Rattle.charts.specs.Events.{event, input, no_event}
use Rattle.charts.specs.Lists.{count_of, event_of}
use Rattle.charts.specs.Sound.{Sound}
use Rattle.charts.proofs.Bounds.{past_count}
use Rattle.media.specs.Carry.{Carry}
use Rattle.orders.specs.Histories.{pos}
use Rattle.orders.specs.May.{Waits, receiver, sender, itself}
use Rattle.orders.specs.Orders.{Order, Ended, Full}
use Rattle.orders.specs.Rings.{head_or, LowestUnfinished, Ring}
use Rattle.orders.specs.Deciding.{sent_at, unfinished, may_now_at, waits_for_at, waits_now}
use Rattle.orders.specs.Driving.{lowest}
use Rattle.orders.specs.Walking.{walked, ring_at}
use Rattle.orders.specs.Theorems.{OneRing, StuckHasRing}
use Rattle.orders.proofs.Decided.{at_width, waits_unfinished, waits_for_one, waited_unfinished}
use Rattle.orders.proofs.Deciding.{may_true, now_waits, waits_level}
use Rattle.orders.proofs.Lowest.{lowest_passes, lowest_least}
use Rattle.orders.proofs.Verdicts.{end_is_greatest, none_unfinished}
use Rattle.orders.proofs.Walking.{Round, ComesRound, ring_listed, leads_map, leads_member, once_short, comes_round, one_round}

-- the lowest unfinished instance is one
pub one_lowest : (L : List (List Event)) (h : List ℕ) (i j : ℕ) → LowestUnfinished L h i → LowestUnfinished L h j → i ≡ j
one_lowest L h i j a b =
    elim (cases_order i j) [
      | inl e ↦ e
      | inr (inl l) ↦ absurd (let x = a.left in let y = b.lowest i l in omega arith)
      | inr (inr l) ↦ absurd (let x = b.left in let y = a.lowest j l in omega arith)
    ]

module _ (M : Carry) (L : List (List Event)) where
  -- histories with the same positions have the same rings
  pub ring_level : (h g : List ℕ) → ((j : ℕ) → pos h j ≡ pos g j) → (r : List ℕ) → Ring M L h r → Ring M L g r
  ring_level h g same r x =
      record {
        lead = x.lead;
        first = x.first;
        rest = x.rest;
        is = x.is;
        from = lowest_level (head_or x.first x.lead) x.from;
        waits = leads_map (Waits M L h) (Waits M L g) (x.lead ++ r) x.first (λ a b _ w. waits_level M L h g same a b w) x.waits;
        once = x.once;
      }
    where
      lowest_level : (i : ℕ) → LowestUnfinished L h i → LowestUnfinished L g i
      lowest_level i u =
          record {
            left = let s = same i in let l = u.left in omega arith;
            lowest = λ j b. let s = same j in let l = u.lowest j b in omega arith;
          }

  -- all ends have the same ring
  pub ring_everywhere : (e g : List ℕ) → Order M L e → Ended M L e → Order M L g → Ended M L g → (r : List ℕ) → Ring M L e r → Ring M L g r
  ring_everywhere e g oe ee og eg r x = ring_level e g ((end_is_greatest M L g og eg).level e oe ee) r x

  -- an end with an event left is not full
  pub left_not_full : (h : List ℕ) (i : ℕ) → pos h i < count_of L i → Full M L h → ⊥
  left_not_full h i l f = let d = f.done i in omega arith

module _ (M : Carry) (L : List (List Event)) (sound : Sound L) where
  -- an instance with an event left is one of the chart's
  pub left_width : (h : List ℕ) (i : ℕ) → pos h i < count_of L i → i < length L
  left_width h i l = at_width L sound i (pos h i) (event_of L i (pos h i)) (record { within = l; is = refl })

  -- what is waited for is one
  pub waited_width : (h : List ℕ) (i x : ℕ) → Waits M L h i x → x < length L
  waited_width h i x (receiver j m n l f) = l
  waited_width h i x (sender s m k n l sent late) = l
  waited_width h i x (itself s m k n l sent ran f) = at_width L sound i (pos h i) (event input s m) n

  -- a history has one ring at most
  pub one_ring : (h p q : List ℕ) → Ring M L h p → Ring M L h q → p ≡ q
  one_ring h p q x y = one_round (Waits M L h) (waits_for_one L sound M h) (head_or x.first x.lead) p q (round p x refl) (round q y same)
    where
      same : head_or y.first y.lead ≡ head_or x.first x.lead
      same = one_lowest L h (head_or y.first y.lead) (head_or x.first x.lead) y.from x.from

      round : (r : List ℕ) (z : Ring M L h r) → head_or z.first z.lead ≡ head_or x.first x.lead → Round (Waits M L h) (head_or x.first x.lead) r
      round r z s = record { lead = z.lead; first = z.first; rest = z.rest; is = z.is; from = s; leads = z.waits; once = z.once }

  -- what a walk to a ring meets has not finished, so it is no longer than there are instances
  pub ring_left : (h r : List ℕ) (x : Ring M L h r) (i : ℕ) → 1 ≤ pos (x.lead ++ r) i → pos h i < count_of L i
  ring_left h r x i m =
      let w = leads_member (Waits M L h) (x.lead ++ r) x.first i x.waits m in
      waits_unfinished L sound M h i w.0 w.1

  pub ring_soon : (h r : List ℕ) (x : Ring M L h r) → length (x.lead ++ r) ≤ length L
  ring_soon h r x = once_short (length L) (x.lead ++ r) x.once (λ i m. left_width h i (ring_left h r x i m))

  -- the members of a ring are instances, and there is one at least
  pub ring_below : (h r : List ℕ) → Ring M L h r → (k : ℕ) → k < length r → get_or r k 0 < length L
  ring_below h r x k l = left_width h (get_or r k 0) (ring_left h r x (get_or r k 0) (ring_listed x.lead r k l))

  pub ring_length : (h r : List ℕ) → Ring M L h r → (1 ≤ length r) × (length r ≤ length L)
  ring_length h r x =
      let whole = ring_soon h r x in
      let parts = length-append x.lead r in
      let one = ap length x.is in
      (omega arith, omega arith)

module _ (M : Carry) (L : List (List Event)) (sound : Sound L) (e : List ℕ) (ended : Ended M L e) where
  -- where none may run, an instance with an event left waits for the one that is computed
  pub waits_at_end : (i : ℕ) → pos e i < count_of L i → Waits M L e i (waits_now L (pos e) i)
  waits_at_end i left =
      elim (cases_Bool (may_now_at M L (pos e) i)) [ inl y ↦ absurd (ended i (may_true M L sound e i y)) | inr f ↦ now_waits M L sound e i left f ]

  -- and what is computed is always an instance
  pub waits_below : (i : ℕ) → i < length L → waits_now L (pos e) i < length L
  waits_below i l =
      elim (cases_lt (pos e i) (count_of L i)) [
        | inl left ↦ waited_width M L sound e i (waits_now L (pos e) i) (waits_at_end i left)
        | inr done ↦
            subst (λ (x : Event). waits_for_at L (pos e) i x < length L) (sym (past_count L i (pos e i) done))
            (cond_both (ltb (sent_at L i no_event) (pos e 0)) i 0 (λ x. x < length L) (λ _. l) (λ _. omega arith))
      ]

  -- so the walk comes round from every instance
  pub walk_below : (x : ℕ) → x < length L → ComesRound (waits_now L (pos e)) (λ i. i < length L) x (walked (waits_now L (pos e)) (suc (length L)) [] x)
  walk_below x l = comes_round (waits_now L (pos e)) (λ i. i < length L) (length L) waits_below (λ i b. b) (suc (length L)) x (omega arith) l

module _ (M : Carry) (L : List (List Event)) (sound : Sound L) (e : List ℕ) (order : Order M L e) (ended : Ended M L e) where
  -- after an order it has an event left too
  pub next_left : (i : ℕ) → pos e i < count_of L i → pos e (waits_now L (pos e) i) < count_of L (waits_now L (pos e) i)
  next_left i l = waited_unfinished L sound M e i (waits_now L (pos e) i) order (waits_at_end M L sound e ended i l)

  -- at an end that is not full the search for an unfinished instance finds the lowest
  pub lowest_left : (Full M L e → ⊥) → lowest (unfinished L (pos e)) (length L) < length L
  lowest_left stuck =
      elim (cases_lt (lowest (unfinished L (pos e)) (length L)) (length L))
      [ inl l ↦ l | inr none ↦ absurd (stuck (none_unfinished M L sound e order none)) ]

  module _ (some : lowest (unfinished L (pos e)) (length L) < length L) where
    pub lowest_is_left : LowestUnfinished L e (lowest (unfinished L (pos e)) (length L))
    lowest_is_left =
        record {
          left = ltb-true (pos e x) (count_of L x) (lowest_passes (unfinished L (pos e)) (length L) some);
          lowest = λ j b. ltb-false (pos e j) (count_of L j) (lowest_least (unfinished L (pos e)) (length L) j b);
        }
      where
        x : ℕ
        x = lowest (unfinished L (pos e)) (length L)

    -- where it finds one the end is not full
    pub some_not_full : Full M L e → ⊥
    some_not_full = left_not_full M L e (lowest (unfinished L (pos e)) (length L)) lowest_is_left.left

    -- the walk that is computed from there
    walk_at_end : ComesRound (waits_now L (pos e)) (λ i. pos e i < count_of L i) (lowest (unfinished L (pos e)) (length L)) (ring_at L (pos e))
    walk_at_end =
        comes_round (waits_now L (pos e)) (λ i. pos e i < count_of L i) (length L) next_left (left_width M L sound e) (suc (length L))
        (lowest (unfinished L (pos e)) (length L)) (omega arith) lowest_is_left.left

    -- comes to the ring
    pub ring_at_end : Ring M L e (ring_at L (pos e))
    ring_at_end =
        let w = walk_at_end in
        record {
          lead = w.round.lead;
          first = w.round.first;
          rest = w.round.rest;
          is = w.round.is;
          from = subst (LowestUnfinished L e) (sym w.round.from) lowest_is_left;
          waits = leads_map (λ a b. b ≡ waits_now L (pos e) a) (Waits M L e) (w.round.lead ++ ring_at L (pos e)) w.round.first
              (λ a b m s. subst (Waits M L e a) (sym s) (waits_at_end M L sound e ended a (w.members a m))) w.round.leads;
          once = w.round.once;
        }

    -- within as many steps as there are instances, and it is the only one, at every end
    pub one_ring_at_end : OneRing M L e (ring_at L (pos e))
    one_ring_at_end =
        record {
          ring = ring_at_end;
          soon = ring_soon M L sound e (ring_at L (pos e)) ring_at_end;
          only = λ q r. one_ring M L sound e q (ring_at L (pos e)) r ring_at_end;
          everywhere = λ g o n. ring_everywhere M L e g order ended o n (ring_at L (pos e)) ring_at_end;
        }

pub stuck_has_ring : StuckHasRing
stuck_has_ring M L sound e order ended stuck = (ring_at L (pos e), one_ring_at_end M L sound e order ended (lowest_left M L sound e order ended stuck))
