-- How far back an event can be pushed: a drive that never makes it finds the latest place.
use Rattle.std.proofs.Common.{◌≡◌, ℕ, ◌+◌, ◌<◌, ◌≤◌, max, cond, eqb, List, [], ◌∷◌, ◌++◌, length, refl, ap, ◌∙◌, subst, inl, inr, arith}
use Rattle.std.proofs.lemmas.Bool.{cases_eq, cond-true, cond-false, eq-eqb, ne_eqb}
use Rattle.orders.specs.Histories.{pos}
use Rattle.orders.specs.Orders.{Steps, Stays}
use Rattle.orders.specs.Latest.{Other}
use Rattle.orders.proofs.Positions.{pos_append, pos_step, pos_stay, by_steps}
use Rattle.orders.proofs.Growing.{Joined, steps_front, steps_last, steps_push, extension}

-- a history with one of its steps of x left out
record Without (x : ℕ) (g : List ℕ) : Type 0 where
  rest : List ℕ
  shorter : length g ≡ length rest + 1
  places : (j : ℕ) → pos g j ≡ cond (eqb x j) 1 0 + pos rest j

without : (x : ℕ) (g : List ℕ) → 1 ≤ pos g x → Without x g
without x [] h = absurd (omega arith)
without x (y ∷ g) h =
    elim (cases_eq y x) [
      | inl e ↦ record { rest = g; shorter = omega arith; places = λ j. ap (λ (z : ℕ). cond (eqb z j) 1 0 + pos g j) e }
      | inr n ↦
          let c = cond-false {A = ℕ} (eqb y x) 1 0 (ne_eqb y x n) in
          let r = without x g (omega arith) in
          let s = r.shorter in
          record { rest = y ∷ r.rest; shorter = omega arith; places = λ j. let p = r.places j in omega arith }
    ]

-- a history with no larger position is no longer
pub shorter : (a g : List ℕ) → ((j : ℕ) → pos a j ≤ pos g j) → length a ≤ length g
shorter [] g h = omega arith
shorter (x ∷ a) g h =
    let here = h x in
    let c = cond-true {A = ℕ} (eqb x x) 1 0 (eq-eqb x x refl) in
    let r = without x g (omega arith) in
    let s = r.shorter in
    let t = shorter a r.rest (λ j. let p = r.places j in let q = h j in omega arith) in
    omega arith

module _ (P : List ℕ → ℕ → Type 0) (stays : Stays P) (i k : ℕ) where
  -- where no other step can be made, an order that has not made the event has no larger position
  before_event : (g : List ℕ) → ((j : ℕ) → Other P i k g j → ⊥) → (a : List ℕ) → Steps P a → pos a i ≤ k → (j : ℕ) → pos a j ≤ pos g j
  before_event g ended a =
      by_steps (λ h. Steps P h → pos h i ≤ k → (j : ℕ) → pos h j ≤ pos g j) (λ o l j. omega arith)
      (λ u x below o l j.
      let q = pos_append u (x ∷ []) i in
      let before = below (steps_front P u (x ∷ []) o) (omega arith) in
      elim (cases_eq x j) [
        | inl same ↦
            let here = before x in
            let moved = pos_step u x in
            let stuck : pos u x ≡ pos g x → ⊥ =
            λ level. ended x (record {
              can = stays u g x before level (steps_last P u x o);
              other = λ is at. passed u x is l (level ∙ ap (pos g) is ∙ at);
            }) in
            subst (λ (z : ℕ). pos (u ++ (x ∷ [])) z ≤ pos g z) same (omega (arith, stuck))
        | inr other ↦ let kept = pos_stay u x j other in let here = before j in omega arith
      ])
      a
    where
      passed : (u : List ℕ) (x : ℕ) → x ≡ i → pos (u ++ (x ∷ [])) i ≤ k → pos u x ≡ k → ⊥
      passed u x is l at =
          let moved = pos_step u x in
          let z = ap (pos (u ++ (x ∷ []))) is in
          omega arith

  -- the place of the event in an order is where i is listed for the (k + 1)th time: never after the drive's end and one more
  pub never_passed : (g : List ℕ) → ((j : ℕ) → Other P i k g j → ⊥) → (a b : List ℕ) → Steps P (a ++ (i ∷ b)) → pos a i ≡ k → length a ≤ length g
  never_passed g ended a b o at = shorter a g (before_event g ended a (steps_front P a (i ∷ b) o) (omega arith))

  -- and where some order makes the event, one makes it exactly there
  pub record Reached (g f : List ℕ) : Type 0 where
    pub at : pos g i ≡ k
    pub more : List ℕ
    pub order : Steps P ((g ++ (i ∷ [])) ++ more)
    pub places : (j : ℕ) → pos ((g ++ (i ∷ [])) ++ more) j ≡ max (pos (g ++ (i ∷ [])) j) (pos f j)

  pub reached : (g : List ℕ) → Steps P g → ((j : ℕ) → Other P i k g j → ⊥) → pos g i ≤ k → (f : List ℕ) → Steps P f → k < pos f i → Reached g f
  reached g og ended low f of high = go r.0 r.1
    where
      r : (v : List ℕ) × Joined P stays g f v
      r = extension P stays g f og of

      go : (v : List ℕ) → Joined P stays g f v → Reached g f
      go [] j = absurd (let p = j.places i in let q = pos_append g [] i in omega arith)
      go (x ∷ v) j =
          let may : P g x = j.order g x v refl in
          let due : (x ≡ i) × (pos g i ≡ k) =
          elim (cases_eq x i) [
            | inl is ↦ elim (cases_eq (pos g i) k) [ inl at ↦ (is, at) | inr n ↦ absurd (ended x (record { can = may; other = λ _ at. n at })) ]
            | inr n ↦ absurd (ended x (record { can = may; other = λ is _. n is }))
          ] in
          let step = steps_push P g i og (subst (P g) due.0 may) in
          let e = extension P stays (g ++ (i ∷ [])) f step of in
          record { at = due.1; more = e.0; order = e.1.order; places = e.1.places }
