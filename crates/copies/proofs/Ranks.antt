-- The messages ahead of one that is input, as the slots of the sender have them.
use Rattle.std.proofs.Common.{◌≡◌, ℕ, ◌<◌, ◌≤◌, Bool, true, false, not, ◌&&◌, eqb, ltb, leb, List, length, get_or, take, count_by, sym, refl, ap, ◌∙◌, inl, inr, arith}
use Rattle.std.proofs.lemmas.List.{get_or-map, length-map}
use Rattle.std.proofs.lemmas.Bool.{cases_lt, lt-ltb, le-ltb, lt-leb, le-leb, eqb-true, and_parts, not_from_true, not_from_false}
use Rattle.charts.specs.declared.parts.Event.{Event}
use Rattle.charts.specs.Events.{event, no_event, output}
use Rattle.charts.specs.Lists.{At, column, count_of, event_of}
use Rattle.charts.specs.Sound.{Sound}
use Rattle.orders.specs.Passing.{output_to, received, passing}
use Rattle.orders.specs.Deciding.{input_place}
use Rattle.copies.specs.declared.parts.Slot.{Slot}
use Rattle.copies.specs.Grids.{no_slot}
use Rattle.copies.specs.Lists.{events_in}
use Rattle.copies.specs.Slots.{mate_of, is_ahead}
use Rattle.copies.proofs.Links.{mate_output}
use Rattle.copies.proofs.Partners.{same_count, output_received}

later : (k p : ℕ) → leb k p ≡ not (ltb p k)
later k p =
    elim (cases_lt p k) [
      | inl b ↦ lt-leb k p b ∙ sym (not_from_true (ltb p k) (lt-ltb p k b))
      | inr b ↦ le-leb k p b ∙ sym (not_from_false (ltb p k) (le-ltb p k b))
    ]

module _ (L : List (List Event)) (sound : Sound L) where
  -- an event of instance s is a message to i that i has not received among its first k
  ahead_test : (s l : ℕ) (x : Slot) (i k : ℕ) → At L s l x.event → x.mate ≡ mate_of L s x.event → i < length L →
      is_ahead i k x ≡ (output_to i x.event && not (received s x.event.number (take k (column L i))))
  ahead_test s l x i k a mate w = go (output_to i x.event) refl
    where
      go : (t : Bool) → output_to i x.event ≡ t → (t && leb k x.mate) ≡ (t && not (received s x.event.number (take k (column L i))))
      go true t =
          let f = x.event in
          let p = and_parts (eqb f.kind output) (eqb f.peer i) t in
          let o = eqb-true f.kind output p.0 in
          let j = eqb-true f.peer i p.1 in
          let b : At L s l (event output i f.number) = record { within = a.within; is = a.is ∙ (λ t. record { kind = o t; peer = j t; number = f.number }) } in
          let place = mate ∙ mate_output L s f (omega arith) o ∙ ap (λ (n : ℕ). input_place s f.number (column L n)) j in
          ap (leb k) place ∙ later k (input_place s f.number (column L i)) ∙ ap not (sym (output_received L sound s l i f.number b w k))
      go false t = refl

  -- those among the first n of the sender's slots are the messages on the way
  pub passing_counted : (s i n k : ℕ) (ss : List Slot) → i < length L → n ≤ count_of L s → events_in ss ≡ column L s →
      ((l : ℕ) → l < length ss → (get_or ss l no_slot).mate ≡ mate_of L s (event_of L s l)) → count_by (is_ahead i k) (take n ss) ≡ passing L s i n k
  passing_counted s i n k ss w h same mated =
      let z = length-map ss (λ x. x.event) in
      let y = ap length same in
      same_count (is_ahead i k) (λ e. output_to i e && not (received s e.number (take k (column L i)))) ss (column L s) no_slot no_event n (omega arith) h
      (λ l b.
      let inside : l < length ss = omega arith in
      let is : event_of L s l ≡ (get_or ss l no_slot).event = ap (λ (es : List Event). get_or es l no_event) (sym same) ∙ get_or-map (λ x. x.event) ss l no_slot no_event inside in
      let a : At L s l (get_or ss l no_slot).event = record { within = omega arith; is = is } in
      ahead_test s l (get_or ss l no_slot) i k a (mated l inside ∙ ap (mate_of L s) is) w ∙ ap (λ (e : Event). output_to i e && not (received s e.number (take k (column L i)))) (sym is))
