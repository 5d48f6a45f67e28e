-- The places of messages, as a table's events are read one by one.
use Rattle.std.proofs.Common.{◌≡◌, ℕ, ◌+◌, ◌<◌, ◌≤◌, ◌≢◌, Bool, false, cond, ◌&&◌, eqb, ltb, List, length, get_or, Some, None, Option, sym, refl, ap, ◌∙◌, inl, inr, arith}
use Rattle.std.proofs.lemmas.Bool.{lt-ltb, le-ltb, cases_lt, cases_eq, cond-true, cond-false, and_from, eq-eqb, ne_eqb}
use Rattle.std.specs.Option.{is_some}
use Rattle.charts.specs.declared.parts.Event.{Event}
use Rattle.charts.specs.Events.{no_event, output, input}
use Rattle.checks.specs.Rules.{first_place, well_formed}
use Rattle.checks.proofs.Chosen.{some_none}
use Rattle.checks.proofs.Exact.{first_kind, first_before}
use Rattle.checks.proofs.Passed.{at_place, formed_from}
use Rattle.messages.specs.declared.ends.End.{End}
use Rattle.messages.specs.declared.ends.End.TheVariants.{Output, Input}
use Rattle.messages.specs.declared.places.MessagePlaces.{MessagePlaces}
use Rattle.messages.specs.Ends.{kind_of}
use Rattle.messages.specs.Places.{place_of, place_after}
use Rattle.tables.specs.Findings.{misformed}
use Rattle.tables.specs.Seen.{seen, Seen}

module _ (es : List Event) (k a m : ℕ) where
  seen_yes : first_place a m es < k → seen es k a m ≡ Some (first_place a m es)
  seen_yes h = cond-true (ltb (first_place a m es) k) (Some (first_place a m es)) None (lt-ltb (first_place a m es) k h)

  pub seen_no : k ≤ first_place a m es → seen es k a m ≡ None
  seen_no h = cond-false (ltb (first_place a m es) k) (Some (first_place a m es)) None (le-ltb (first_place a m es) k h)

  -- none is noted: the first one does not come before k
  fresh : seen es k a m ≡ None → k ≤ first_place a m es
  fresh s = elim (cases_lt (first_place a m es) k) [ inl h ↦ some_none (first_place a m es) (sym (seen_yes h) ∙ s) | inr h ↦ h ]

module _ (es : List Event) (k a m : ℕ) (h : k < length es) where
  -- the event at k is of another kind or number
  seen_past : ((get_or es k no_event).kind ≡ a → (get_or es k no_event).number ≡ m → ⊥) → seen es k a m ≡ seen es (k + 1) a m
  seen_past other =
      elim (cases_lt (first_place a m es) k) [
        | inl l ↦ seen_yes es k a m l ∙ sym (seen_yes es (k + 1) a m (omega arith))
        | inr l ↦
            elim (cases_eq (first_place a m es) k) [
              | inl e ↦
                  let f = first_kind a m es (omega arith) in
                  absurd (other (ap (λ (x : ℕ). (get_or es x no_event).kind) (sym e) ∙ f.0) (ap (λ (x : ℕ). (get_or es x no_event).number) (sym e) ∙ f.1))
              | inr n ↦ seen_no es k a m l ∙ sym (seen_no es (k + 1) a m (omega arith))
            ]
      ]

  -- the event at k is the first of its kind and number
  seen_here : (get_or es k no_event).kind ≡ a → (get_or es k no_event).number ≡ m → seen es k a m ≡ None → seen es (k + 1) a m ≡ Some k
  seen_here kk nn s =
      let l = fresh es k a m s in
      let b = first_before a m es k h kk nn in
      let e : first_place a m es ≡ k = omega arith in
      seen_yes es (k + 1) a m (omega arith) ∙ ap (λ (x : ℕ). Some x) e

-- the numbers of well formed events
pub small_number : (ns : List ℕ) (es : List Event) (k : ℕ) → misformed ns es ≡ None → k < length es → (get_or es k no_event).number < 4096
small_number ns es k s h =
    let f = (formed_from (length ns) k (get_or es k no_event) (at_place ns es (well_formed (length ns)) s k h)).number in omega arith

pub unnoted : (o : Option ℕ) → false ≡ is_some o → o ≡ None
unnoted (Some p) t = cc
unnoted None t = refl

module _ (es : List Event) (k : ℕ) (places : MessagePlaces) (s : Seen es k places) where
  module _ (h : k < length es) (new : MessagePlaces) where
    pub seen_skip : ((get_or es k no_event).kind ≢ output) × ((get_or es k no_event).kind ≢ input) → new ≡ places → Seen es (k + 1) new
    seen_skip other same Output m = ap (λ (x : MessagePlaces). place_of x Output m) same ∙ s Output m ∙ seen_past es k output m h (λ a _. other.0 a)
    seen_skip other same Input m = ap (λ (x : MessagePlaces). place_of x Input m) same ∙ s Input m ∙ seen_past es k input m h (λ a _. other.1 a)

    module _ (small : (get_or es k no_event).number < 4096) where
      -- the noted place among those of its own kind
      here : (side : End) (m : ℕ) → (get_or es k no_event).kind ≡ kind_of side → place_of places side (get_or es k no_event).number ≡ None →
          cond (eqb m (get_or es k no_event).number && ltb (get_or es k no_event).number 4096) (Some k) (place_of places side m) ≡ seen es (k + 1) (kind_of side) m
      here side m is free =
          let n = (get_or es k no_event).number in
          elim (cases_eq m n) [
            | inl e ↦
                cond-true (eqb m n && ltb n 4096) (Some k) (place_of places side m) (and_from (eqb m n) (ltb n 4096) (eq-eqb m n e) (lt-ltb n 4096 small)) ∙
                sym (seen_here es k (kind_of side) m h is (sym e) (sym (s side m) ∙ ap (λ (x : ℕ). place_of places side x) e ∙ free))
            | inr ne ↦
                ap (λ (b : Bool). cond (b && ltb n 4096) (Some k) (place_of places side m)) (ne_eqb m n ne) ∙ s side m ∙
                seen_past es k (kind_of side) m h (λ _ y. ne (sym y))
          ]

      pub seen_note : (end : End) → (get_or es k no_event).kind ≡ kind_of end → place_of places end (get_or es k no_event).number ≡ None →
          ((side : End) (m : ℕ) → place_of new side m ≡ place_after places end (get_or es k no_event).number k side m) → Seen es (k + 1) new
      seen_note Output is free put Output m = put Output m ∙ here Output m is free
      seen_note Output is free put Input m = put Input m ∙ s Input m ∙ seen_past es k input m h (λ a _. omega arith)
      seen_note Input is free put Output m = put Output m ∙ s Output m ∙ seen_past es k output m h (λ a _. omega arith)
      seen_note Input is free put Input m = put Input m ∙ here Input m is free
