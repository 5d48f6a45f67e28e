-- Steps that are made after a history.
use Rattle.std.proofs.Common.{◌≡◌, ℕ, ◌<◌, ◌≤◌, List, [], ◌∷◌, ◌++◌, sym, refl, ap, ◌∙◌, subst, arith}
use Rattle.std.proofs.lemmas.List.{append_assoc, append-nil}
use Rattle.charts.specs.declared.parts.Event.{Event}
use Rattle.charts.specs.Lists.{count_of}
use Rattle.orders.specs.Histories.{pos}
use Rattle.orders.specs.Orders.{Steps}
use Rattle.orders.proofs.Positions.{pos_append, by_steps}
use Rattle.orders.proofs.Growing.{steps_front, steps_last, steps_push}
use Rattle.orders.proofs.Lengths.{Within, within_step}

-- each step of w can be made where it stands after h
abbrev pub Onwards : (List ℕ → ℕ → Type 0) → List ℕ → List ℕ → Type 0
Onwards P h w = Steps (λ u i. P (h ++ u) i) w

-- steps that one rule allows are allowed by any weaker one
pub onwards_weaker : (P Q : List ℕ → ℕ → Type 0) → ((u : List ℕ) (i : ℕ) → P u i → Q u i) → (h w : List ℕ) → Onwards P h w → Onwards Q h w
onwards_weaker P Q weaker h w o u i v e = weaker (h ++ u) i (o u i v e)

module _ (P : List ℕ → ℕ → Type 0) where
  pub onwards_head : (h : List ℕ) (i : ℕ) (w : List ℕ) → Onwards P h (i ∷ w) → P h i
  onwards_head h i w o = subst (λ (u : List ℕ). P u i) (append-nil h) (o [] i w refl)

  pub onwards_tail : (h : List ℕ) (i : ℕ) (w : List ℕ) → Onwards P h (i ∷ w) → Onwards P (h ++ (i ∷ [])) w
  onwards_tail h i w o u j v e = subst (λ (x : List ℕ). P x j) (sym (append_assoc h (i ∷ []) u)) (o (i ∷ u) j v (ap (λ (x : List ℕ). i ∷ x) e))

  pub onwards_cons : (h : List ℕ) (i : ℕ) (w : List ℕ) → P h i → Onwards P (h ++ (i ∷ [])) w → Onwards P h (i ∷ w)
  onwards_cons h i w p o [] j v e = let same : i ≡ j = cc in subst (P (h ++ [])) same (subst (λ (u : List ℕ). P u i) (sym (append-nil h)) p)
  onwards_cons h i w p o (x ∷ u) j v e =
      let same : i ≡ x = cc in
      let rest : w ≡ u ++ (j ∷ v) = cc in
      subst (λ (y : ℕ). P (h ++ (y ∷ u)) j) same (subst (λ (y : List ℕ). P y j) (append_assoc h (i ∷ []) u) (o u j v rest))

  -- an order and steps after it are an order
  pub onwards_steps : (h w : List ℕ) → Steps P h → Onwards P h w → Steps P (h ++ w)
  onwards_steps h w oh =
      by_steps (λ x. Onwards P h x → Steps P (h ++ x)) (λ _. subst (Steps P) (sym (append-nil h)) oh)
      (λ u i before o.
      subst (Steps P) (append_assoc h u (i ∷ []))
      (steps_push P (h ++ u) i (before (steps_front (λ x. P (h ++ x)) u (i ∷ []) o)) (steps_last (λ x. P (h ++ x)) u i o)))
      w

  -- and the steps of an order after its beginning are such steps
  pub steps_onwards : (h w : List ℕ) → Steps P (h ++ w) → Onwards P h w
  steps_onwards h w o u i v e = o (h ++ u) i v (ap (λ (x : List ℕ). h ++ x) e ∙ sym (append_assoc h u (i ∷ v)))

  -- steps of instances that have events left stay within the lists
  pub onwards_within : (L : List (List Event)) → ((h : List ℕ) (i : ℕ) → P h i → pos h i < count_of L i) → (g h : List ℕ) → ((i : ℕ) → pos g i ≤ pos h i) → Within L g →
      (w : List ℕ) → Onwards P h w → Within L (g ++ w)
  onwards_within L left g h less inside w =
      by_steps (λ x. Onwards P h x → Within L (g ++ x)) (λ _. subst (Within L) (sym (append-nil g)) inside)
      (λ u i before o.
      subst (Within L) (append_assoc g u (i ∷ []))
      (within_step L (g ++ u) i (before (steps_front (λ x. P (h ++ x)) u (i ∷ []) o))
      (let a = left (h ++ u) i (steps_last (λ x. P (h ++ x)) u i o) in
      let b = less i in
      let c = pos_append g u i in
      let d = pos_append h u i in
      omega arith)))
      w
