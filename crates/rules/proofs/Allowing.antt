-- The rule read off a slot is the rule of what may run.
use Rattle.std.proofs.Common.{◌≡◌, ℕ, ◌<◌, ◌≤◌, Bool, true, false, cond, not, ◌&&◌, eqb, ltb, ◌⊎◌, List, [], length, Some, None, Option, sym, refl, ap, ◌∙◌, subst, inl, inr, arith}
use Rattle.std.proofs.lemmas.List.{get_or_past}
use Rattle.std.proofs.lemmas.Bool.{cases_eq, cases_lt, eq-eqb, ne_eqb, eqb-false, lt-ltb, le-ltb, ltb-false, and_cases, or_parts, cases_Bool, cond-true, cond-false}
use Rattle.charts.specs.declared.parts.Event.{Event}
use Rattle.charts.specs.Events.{event, output, input, action, environment, is_message}
use Rattle.charts.specs.Lists.{At, column, count_of, event_of}
use Rattle.charts.specs.Sound.{Sound}
use Rattle.media.specs.Carry.{Carry}
use Rattle.orders.specs.Deciding.{output_place, input_place, sent_at, may_run_at, may_now_at, waits_for_at}
use Rattle.copies.specs.declared.parts.Slot.{Slot}
use Rattle.copies.specs.Slots.{between, mate_of, ahead_of, slot_of, slot_at}
use Rattle.rules.specs.declared.row.Row.{Row}
use Rattle.rules.specs.declared.held.Held.{Held}
use Rattle.rules.specs.Held.{held_now, is_held}
use Rattle.rules.specs.Places.{place_of, sent_of, Tallied}
use Rattle.rules.specs.Rules.{slot_may, slot_waits}

module _ (M : Carry) (L : List (List Event)) (sound : Sound L) (rows : List Row) (tallied : Tallied L rows) (i : ℕ) where
  -- the slot of an event of i at its position
  abbrev slot_for : Event → Slot
  slot_for e = record { event = e; mate = mate_of L i e; ahead = ahead_of L i (place_of rows i) e }

  -- what the rule says of it, and what it is to say
  abbrev Agrees : Event → Type 0
  Agrees e = slot_may M (length L) (place_of rows) (sent_of rows) i (slot_for e) ≡ may_run_at M L (place_of rows) i e

  at_action : (j m : ℕ) → Agrees (event action j m)
  at_action j m = refl

  at_output : (j m : ℕ) → (j < length L) ⊎ (j ≡ environment) → Agrees (event output j m)
  at_output j m (inr e) = rw (eq-eqb j environment e) refl
  at_output j m (inl l) =
      let few = sound.few_instances in
      let n = ne_eqb j environment (omega arith) in
      let w = lt-ltb j (length L) l in
      let t = tallied i j l in
      rw (n, w) (ap (M.send i j) t)

  at_input : (s m : ℕ) → (s < length L) ⊎ (s ≡ environment) → Agrees (event input s m)
  at_input s m (inr e) = rw (eq-eqb s environment e) refl
  at_input s m (inl l) =
      let few = sound.few_instances in
      let n = ne_eqb s environment (omega arith) in
      let w = lt-ltb s (length L) l in
      rw (n, w) refl

  of_kind : (e : Event) (k : ℕ) → e.kind ≡ k → e ≡ event k e.peer e.number
  of_kind e k p t = record { kind = p t; peer = e.peer; number = e.number }

  pub slot_may_lem : place_of rows i < count_of L i →
      slot_may M (length L) (place_of rows) (sent_of rows) i (slot_of L i (place_of rows i)) ≡ may_run_at M L (place_of rows) i (event_of L i (place_of rows i))
  slot_may_lem left =
      let e = event_of L i (place_of rows i) in
      let a : At L i (place_of rows i) e = record { within = left; is = refl } in
      let k = sound.kinds i (place_of rows i) e a in
      let low = k.0 in
      let high = k.1 in
      elim (cases_eq e.kind output) [
        | inl o ↦ subst Agrees (sym (of_kind e output o)) (at_output e.peer e.number (sound.message_peers i (place_of rows i) e a (inl o)))
        | inr n ↦
            elim (cases_eq e.kind input) [
              | inl o ↦ subst Agrees (sym (of_kind e input o)) (at_input e.peer e.number (sound.message_peers i (place_of rows i) e a (inr o)))
              | inr m ↦ subst Agrees (sym (of_kind e action (omega arith))) (at_action e.peer e.number)
            ]
      ]

-- a slot that the copy has is the slot of its place
pub slot_there : (L : List (List Event)) (i k : ℕ) (x : Slot) → slot_at L i k ≡ Some x → (k < count_of L i) × (x ≡ slot_of L i k)
slot_there L i k x e =
    elim (cases_lt k (count_of L i)) [
      | inl l ↦ (l, let t = cond-true (ltb k (count_of L i)) (Some (slot_of L i k)) None (lt-ltb k (count_of L i) l) in cc)
      | inr n ↦
          absurd (
          let t = cond-false (ltb k (count_of L i)) (Some (slot_of L i k)) None (le-ltb k (count_of L i) n) in
          let z : ◌≡◌ {A = ℕ} 0 1 = cc in
          omega arith)
    ]

-- whether the next event may run, read off its slot
pub slot_says : (M : Carry) (L : List (List Event)) → Sound L → (rows : List Row) → Tallied L rows → (i : ℕ) (x : Slot) → slot_at L i (place_of rows i) ≡ Some x →
    slot_may M (length L) (place_of rows) (sent_of rows) i x ≡ may_now_at M L (place_of rows) i
slot_says M L sound rows tallied i x e =
    let s = slot_there L i (place_of rows i) x e in
    ap (slot_may M (length L) (place_of rows) (sent_of rows) i) s.1 ∙ slot_may_lem M L sound rows tallied i s.0
    ∙ ap (λ (b : Bool). b && may_run_at M L (place_of rows) i (event_of L i (place_of rows i))) (sym (lt-ltb (place_of rows i) (count_of L i) s.0))

-- and whether it is another than the one that is held
pub slot_says_held : (M : Carry) (L : List (List Event)) → Sound L → (rows : List Row) → Tallied L rows → (held : Option Held) (i : ℕ) (x : Slot) → slot_at L i (place_of rows i) ≡ Some x →
    held_now M L held (place_of rows) i ≡ (slot_may M (length L) (place_of rows) (sent_of rows) i x && not (is_held held (place_of rows) i))
slot_says_held M L sound rows tallied None i x e = sym (slot_says M L sound rows tallied i x e) ∙ and_true (slot_may M (length L) (place_of rows) (sent_of rows) i x)
  where
    and_true : (b : Bool) → b ≡ (b && true)
    and_true true = refl
    and_true false = refl
slot_says_held M L sound rows tallied (Some h) i x e = ap (λ (b : Bool). b && not (is_held (Some h) (place_of rows) i)) (sym (slot_says M L sound rows tallied i x e))

-- what is waited for, read off a slot
pub slot_waits_lem : (L : List (List Event)) → Sound L → (p : ℕ → ℕ) (i k : ℕ) → k < count_of L i → slot_waits p i (slot_of L i k) ≡ waits_for_at L p i (event_of L i k)
slot_waits_lem L sound p i k left =
    elim (cases_eq e.kind output) [
      | inl o ↦
          let t = eq-eqb e.kind output o in
          cond-true (eqb e.kind output) e.peer (cond (ltb (mate_of L i e) (p e.peer)) i e.peer) t
          ∙ sym (cond-true (eqb e.kind output) e.peer (cond (ltb (sent_at L i e) (p e.peer)) i e.peer) t)
      | inr n ↦
          let f = ne_eqb e.kind output n in
          let from = cond-false (eqb e.kind output) e.peer (cond (ltb (mate_of L i e) (p e.peer)) i e.peer) f in
          let to = cond-false (eqb e.kind output) e.peer (cond (ltb (sent_at L i e) (p e.peer)) i e.peer) f in
          from ∙ ap (λ (m : ℕ). cond (ltb m (p e.peer)) i e.peer) (mate_sent f) ∙ sym to
    ]
  where
    e : Event
    e = event_of L i k

    there : At L i k e
    there = record { within = left; is = refl }

    outside : length L ≤ e.peer → sent_at L i e ≡ 0
    outside h = ap (output_place i e.number) (get_or_past L e.peer [] h)

    mate_sent : eqb e.kind output ≡ false → mate_of L i e ≡ sent_at L i e
    mate_sent f =
        elim (cases_Bool (between L e)) [
          | inl t ↦
              cond-true (between L e) (cond (eqb e.kind output) (input_place i e.number (column L e.peer)) (sent_at L i e)) 0 t
              ∙ cond-false (eqb e.kind output) (input_place i e.number (column L e.peer)) (sent_at L i e) f
          | inr t ↦
              cond-false (between L e) (cond (eqb e.kind output) (input_place i e.number (column L e.peer)) (sent_at L i e)) 0 t
              ∙ sym (outside (far t))
        ]
      where
        -- an event that is not between instances has no instance for its peer
        far : between L e ≡ false → length L ≤ e.peer
        far t =
            elim (and_cases (is_message e) (ltb e.peer (length L)) t) [
              | inr g ↦ ltb-false e.peer (length L) g
              | inl g ↦
                  let q = or_parts (eqb e.kind output) (eqb e.kind input) g in
                  let a = eqb-false e.kind output q.0 in
                  let b = eqb-false e.kind input q.1 in
                  let r = sound.kinds i k e there in
                  let low = r.0 in
                  let high = r.1 in
                  let v = sound.action_peers i k e there (omega (arith, a, b)) in
                  let few = sound.few_instances in
                  omega arith
            ]
