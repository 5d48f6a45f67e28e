-- One step of an instance leaves what may run of every other but the peer of its event.
use Rattle.std.proofs.Common.{◌≡◌, ℕ, suc, ◌+◌, ◌<◌, ◌≤◌, Bool, true, false, cond, not, ◌&&◌, ◌||◌, eqb, ltb, List, [], ◌∷◌, length, get_or, take, Some, None, Option, sym, refl, ap, ◌∙◌, ap₂, inl, inr, arith}
use Rattle.std.proofs.lemmas.Bool.{cases_eq, eq-eqb, eqb-true, ne_eqb, and_parts, and_left, and_right, cond-true, cond-false}
use Rattle.charts.specs.declared.parts.Event.{Event}
use Rattle.charts.specs.Events.{no_event, output, input, action, environment}
use Rattle.charts.specs.Lists.{column, count_of, event_of}
use Rattle.charts.specs.Sound.{Sound}
use Rattle.media.specs.Carry.{Carry}
use Rattle.orders.specs.Passing.{output_to, input_of, received, passing}
use Rattle.orders.specs.Deciding.{output_place, sent_at, may_run_at, unfinished, may_now_at}
use Rattle.orders.specs.Driving.{moved}
use Rattle.orders.proofs.Tallying.{same_test, tally}
use Rattle.rules.specs.declared.held.Held.{Held}
use Rattle.rules.specs.Held.{held_now}

-- where the search for an output to i ends within the events, there is one
output_there : (i m : ℕ) (es : List Event) → output_place i m es < length es → output_to i (get_or es (output_place i m es) no_event) ≡ true
output_there i m [] h = absurd (omega arith)
output_there i m (x ∷ es) h = at (output_to i x && eqb x.number m) refl h (output_there i m es)
  where
    at : (b : Bool) → (output_to i x && eqb x.number m) ≡ b → cond b 0 (suc (output_place i m es)) < suc (length es) →
        (output_place i m es < length es → output_to i (get_or es (output_place i m es) no_event) ≡ true) →
        output_to i (get_or (x ∷ es) (cond b 0 (suc (output_place i m es))) no_event) ≡ true
    at true t h r = (and_parts (output_to i x) (eqb x.number m) t).0
    at false t h r = r (omega arith)

module _ (M : Carry) (L : List (List Event)) (sound : Sound L) (p : ℕ → ℕ) (within : (j : ℕ) → p j ≤ count_of L j) (i : ℕ) (left : p i < count_of L i) where
  -- the event that runs
  abbrev e : Event
  e = event_of L i (p i)

  steps : moved p i i ≡ p i + 1
  steps = let c = cond-true {A = ℕ} (eqb i i) 1 0 (eq-eqb i i refl) in omega arith

  stays : (y : ℕ) → (i ≡ y → ⊥) → moved p i y ≡ p y
  stays y n = let c = cond-false {A = ℕ} (eqb i y) 1 0 (ne_eqb i y n) in omega arith

  module _ (j : ℕ) (other : i ≡ j → ⊥) (apart : e.peer ≡ j → ⊥) where
    here : moved p i j ≡ p j
    here = stays j other

    not_input : (m : ℕ) → input_of j m e ≡ false
    not_input m = and_right (eqb e.kind input) (eqb e.peer j && eqb e.number m) (and_left (eqb e.peer j) (eqb e.number m) (ne_eqb e.peer j apart))

    -- what j has on the way to any instance
    same_passing : (y : ℕ) → passing L j y (moved p i j) (moved p i y) ≡ passing L j y (p j) (p y)
    same_passing y =
        let t = tally L sound p i within left j y in
        let new = output_to y e && not (received i e.number (take (p y) (column L y))) in
        let came = input_of j e.number e && ltb (output_place i e.number (column L j)) (p j) in
        let a = cond-false {A = ℕ} (eqb i j && new) 1 0 (and_left (eqb i j) new (ne_eqb i j other)) in
        let b = cond-false {A = ℕ} (eqb i y && came) 1 0 (and_right (eqb i y) came (and_left (input_of j e.number e) (ltb (output_place i e.number (column L j)) (p j)) (not_input e.number))) in
        omega arith

    -- whether the message that j inputs next was sent
    same_sent : (m y : ℕ) → ltb (output_place j m (column L y)) (moved p i y) ≡ ltb (output_place j m (column L y)) (p y)
    same_sent m y =
        elim (cases_eq i y) [
          | inr n ↦ ap (ltb (output_place j m (column L y))) (stays y n)
          | inl same ↦
              ap (λ (z : ℕ). ltb (output_place j m (column L z)) (moved p i z)) (sym same)
              ∙ ap (ltb (output_place j m (column L i))) steps
              ∙ same_test (output_place j m (column L i)) (p i + 1) (output_place j m (column L i)) (p i) (λ a. omega (arith, not_here)) (λ a. omega arith)
              ∙ ap (λ (z : ℕ). ltb (output_place j m (column L z)) (p z)) same
        ]
      where
        not_here : output_place j m (column L i) ≡ p i → ⊥
        not_here at =
            let t = output_there j m (column L i) (omega arith) in
            let o : output_to j e ≡ true = ap (λ (k : ℕ). output_to j (event_of L i k)) (sym at) ∙ t in
            apart (eqb-true e.peer j (and_parts (eqb e.kind output) (eqb e.peer j) o).1)

    -- whether event f of j may run, by what it looks at
    abbrev Runs : Event → ℕ → Bool → ℕ → Bool
    Runs f n b k =
        cond (eqb f.kind action || eqb f.peer environment) true
        (cond (eqb f.kind output) (M.send j f.peer n) (b && M.take f.peer j (passing L f.peer j (sent_at L j f) k)))

    same_run : (f : Event) → may_run_at M L (moved p i) j f ≡ may_run_at M L p j f
    same_run f =
        ap₂ (λ (n : ℕ) (b : Bool). Runs f n b (moved p i j)) (same_passing f.peer) (same_sent f.number f.peer)
        ∙ ap (Runs f (passing L j f.peer (p j) (p f.peer)) (ltb (sent_at L j f) (p f.peer))) here

    same_may : may_now_at M L (moved p i) j ≡ may_now_at M L p j
    same_may =
        ap (λ (k : ℕ). ltb k (count_of L j) && may_run_at M L (moved p i) j (event_of L j k)) here
        ∙ ap (λ (b : Bool). unfinished L p j && b) (same_run (event_of L j (p j)))

    pub same_held : (held : Option Held) → held_now M L held (moved p i) j ≡ held_now M L held p j
    same_held None = same_may
    same_held (Some x) =
        ap₂ (λ (a b : Bool). a && not b) same_may
        (elim (cases_eq j x.instance) [
          | inl same ↦ ap (λ (k : ℕ). eqb j x.instance && eqb k x.event) (ap (moved p i) (sym same) ∙ here ∙ ap p same)
          | inr n ↦
              let f = ne_eqb j x.instance n in
              and_left (eqb j x.instance) (eqb (moved p i x.instance) x.event) f ∙ sym (and_left (eqb j x.instance) (eqb (p x.instance) x.event) f)
        ])
