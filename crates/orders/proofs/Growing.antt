-- What follows where a step that may run stays possible as others run.
use Rattle.std.proofs.Common.{◌≡◌, ℕ, ◌<◌, ◌≤◌, max, ◌⊎◌, List, [], ◌∷◌, ◌++◌, length, sym, refl, ap, ◌∙◌, subst, inl, inr, arith}
use Rattle.std.proofs.lemmas.List.{append_assoc, append-nil, same_from_push, length-append}
use Rattle.std.proofs.lemmas.Bool.{cases_eq, cases_lt}
use Rattle.orders.specs.Histories.{pos}
use Rattle.orders.specs.Orders.{Steps, Stays}
use Rattle.orders.proofs.Positions.{pos_append, pos_step, pos_stay, by_steps}

-- a history is empty, or has a last step
last_step : (x : List ℕ) → (x ≡ []) ⊎ ((y : List ℕ) × (z : ℕ) × (x ≡ y ++ (z ∷ [])))
last_step x = by_steps (λ h. (h ≡ []) ⊎ ((y : List ℕ) × (z : ℕ) × (h ≡ y ++ (z ∷ [])))) (inl refl) (λ u i _. inr (u, i, refl)) x

module _ (P : List ℕ → ℕ → Type 0) where
  -- an order's beginning is an order
  pub steps_front : (u v : List ℕ) → Steps P (u ++ v) → Steps P u
  steps_front u v o w i x e = o w i (x ++ v) (ap (λ (y : List ℕ). y ++ v) e ∙ append_assoc w (i ∷ x) v)

  pub steps_last : (u : List ℕ) (i : ℕ) → Steps P (u ++ (i ∷ [])) → P u i
  steps_last u i o = o u i [] refl

  pub steps_none : Steps P []
  steps_none w i x e = absurd (let l = ap length e in let a = length-append w (i ∷ x) in omega arith)

  -- one step more
  pub steps_push : (u : List ℕ) (i : ℕ) → Steps P u → P u i → Steps P (u ++ (i ∷ []))
  steps_push u i o p w j x e =
      elim (last_step x) [
        | inl n ↦
            let q = same_from_push u w i j (e ∙ ap (λ (y : List ℕ). w ++ (j ∷ y)) n) in
            subst (λ (k : ℕ). P w k) q.1 (subst (λ (y : List ℕ). P y i) q.0 p)
        | inr r ↦
            let q = same_from_push u (w ++ (j ∷ r.0)) i r.1 (e ∙ ap (λ (y : List ℕ). w ++ (j ∷ y)) r.2 ∙ sym (append_assoc w (j ∷ r.0) (r.1 ∷ []))) in
            o w j r.0 q.0
      ]

module _ (P : List ℕ → ℕ → Type 0) (stays : Stays P) where
  -- an order that has ended has at least the positions of every other
  pub greatest_end : (e : List ℕ) → ((i : ℕ) → P e i → ⊥) → (w : List ℕ) → Steps P w → (i : ℕ) → pos w i ≤ pos e i
  greatest_end e ended w =
      by_steps (λ h. Steps P h → (i : ℕ) → pos h i ≤ pos e i) (λ o i. omega arith)
      (λ u i below o j.
      let before = below (steps_front P u (i ∷ []) o) in
      elim (cases_eq i j) [
        | inl same ↦
            let here = before i in
            let moved = pos_step u i in
            let stuck : pos u i ≡ pos e i → ⊥ = λ level. ended i (stays u e i before level (steps_last P u i o)) in
            subst (λ (k : ℕ). pos (u ++ (i ∷ [])) k ≤ pos e k) same (omega (arith, stuck))
        | inr other ↦ let kept = pos_stay u i j other in let here = before j in omega arith
      ])
      w

  -- two ended ones are equally far
  pub ends_level : (e g : List ℕ) → Steps P e → ((i : ℕ) → P e i → ⊥) → Steps P g → ((i : ℕ) → P g i → ⊥) → (i : ℕ) → pos g i ≡ pos e i
  ends_level e g oe ee og eg i = let a = greatest_end e ee g og i in let b = greatest_end g eg e oe i in omega arith

  -- the positions of two histories, the larger ones
  pub record Joined (h w v : List ℕ) : Type 0 where
    pub order : Steps P (h ++ v)
    pub places : (i : ℕ) → pos (h ++ v) i ≡ max (pos h i) (pos w i)

  -- an order can be continued by the steps of another that it has not made
  pub extension : (h w : List ℕ) → Steps P h → Steps P w → (v : List ℕ) × Joined h w v
  extension h w oh =
      by_steps (λ x. Steps P x → (v : List ℕ) × Joined h x v)
      (λ _. ([], record { order = subst (Steps P) (sym (append-nil h)) oh; places = λ i. let a = pos_append h [] i in omega arith }))
      (λ u i so_far o.
      let r = so_far (steps_front P u (i ∷ []) o) in
      let v = r.0 in
      let j = r.1 in
      elim (cases_lt (pos u i) (pos h i)) [
        | inl made ↦ (v, record { order = j.order; places = λ k. made_place u i v k (j.places k) made })
        | inr due ↦
            let level : pos u i ≡ pos (h ++ v) i = let p = j.places i in omega arith in
            let may = stays u (h ++ v) i (λ k. let p = j.places k in omega arith) level (steps_last P u i o) in
            let more = steps_push P (h ++ v) i j.order may in (
              v ++ (i ∷ []),
              record {
                order = subst (Steps P) (append_assoc h v (i ∷ [])) more;
                places = λ k. ap (λ (y : List ℕ). pos y k) (sym (append_assoc h v (i ∷ []))) ∙ due_place u i v k (j.places k) (j.places i) due;
              },
            )
      ])
      w
    where
      made_place : (u : List ℕ) (i : ℕ) (v : List ℕ) (k : ℕ) → pos (h ++ v) k ≡ max (pos h k) (pos u k) → pos u i < pos h i → pos (h ++ v) k ≡ max (pos h k) (pos (u ++ (i ∷ [])) k)
      made_place u i v k p l =
          elim (cases_eq i k) [
            | inl same ↦ subst (λ (x : ℕ). pos (h ++ v) x ≡ max (pos h x) (pos u x) → pos (h ++ v) x ≡ max (pos h x) (pos (u ++ (i ∷ [])) x)) same (λ q. let a = pos_step u i in omega arith) p
            | inr other ↦ let a = pos_stay u i k other in omega arith
          ]

      due_place : (u : List ℕ) (i : ℕ) (v : List ℕ) (k : ℕ) → pos (h ++ v) k ≡ max (pos h k) (pos u k) → pos (h ++ v) i ≡ max (pos h i) (pos u i) → pos h i ≤ pos u i →
          pos ((h ++ v) ++ (i ∷ [])) k ≡ max (pos h k) (pos (u ++ (i ∷ [])) k)
      due_place u i v k p q l =
          elim (cases_eq i k) [
            | inl same ↦
                subst (λ (x : ℕ). pos ((h ++ v) ++ (i ∷ [])) x ≡ max (pos h x) (pos (u ++ (i ∷ [])) x)) same
                (let a = pos_step u i in let b = pos_step (h ++ v) i in omega arith)
            | inr other ↦ let a = pos_stay u i k other in let b = pos_stay (h ++ v) i k other in omega arith
          ]
