-- A drive on positions, a step at a time.
use Rattle.std.proofs.Common.{◌≡◌, ℕ, zero, suc, ◌+◌, ◌-◌, ◌<◌, ◌≤◌, Bool, ltb, List, [], ◌∷◌, ◌++◌, length, sym, refl, ap, ◌∙◌, ap₂, inl, inr, zero-add, arith}
use mathlib.Core.Path.{fun_ext}
use Rattle.std.proofs.lemmas.List.{append-nil}
use Rattle.std.proofs.lemmas.Bool.{cases_lt, lt-ltb, le-ltb, cond-true, cond-false}
use Rattle.orders.specs.Histories.{pos}
use Rattle.orders.specs.Driving.{lowest, moved, moved_by, driven}
use Rattle.orders.proofs.Positions.{pos_append}
use Rattle.orders.proofs.Lowest.{lowest_most}

pub moved_by_none : (p : ℕ → ℕ) → moved_by p [] ≡ p
moved_by_none p = fun_ext (λ j. omega arith)

pub moved_by_cons : (p : ℕ → ℕ) (i : ℕ) (w : List ℕ) → moved_by (moved p i) w ≡ moved_by p (i ∷ w)
moved_by_cons p i w = fun_ext (λ j. omega arith)

pub moved_by_append : (p : ℕ → ℕ) (u v : List ℕ) → moved_by (moved_by p u) v ≡ moved_by p (u ++ v)
moved_by_append p u v = fun_ext (λ j. let a = pos_append u v j in omega arith)

pub moved_by_push : (p : ℕ → ℕ) (w : List ℕ) (i : ℕ) → moved (moved_by p w) i ≡ moved_by p (w ++ (i ∷ []))
moved_by_push p w i = fun_ext (λ j. let a = pos_append w (i ∷ []) j in omega arith)

pub moved_by_pos : (h w : List ℕ) → moved_by (pos h) w ≡ pos (h ++ w)
moved_by_pos h w = fun_ext (λ j. sym (pos_append h w j))

pub moved_pos : (h : List ℕ) (i : ℕ) → moved (pos h) i ≡ pos (h ++ (i ∷ []))
moved_pos h i = fun_ext (λ j. let a = pos_append h (i ∷ []) j in omega arith)

module _ (test : (ℕ → ℕ) → ℕ → Bool) (width : ℕ) where
  -- one step where one can be made
  pub driven_found : (n : ℕ) (p : ℕ → ℕ) (i : ℕ) → lowest (test p) width ≡ i → i < width → driven test width (suc n) p ≡ i ∷ driven test width n (moved p i)
  driven_found n p i e l =
      cond-true (ltb (lowest (test p) width) width) _ _ (lt-ltb (lowest (test p) width) width (omega arith)) ∙ ap (λ (x : ℕ). x ∷ driven test width n (moved p x)) e

  -- none where none can
  pub driven_none : (n : ℕ) (p : ℕ → ℕ) → width ≤ lowest (test p) width → driven test width n p ≡ []
  driven_none zero p e = refl
  driven_none (suc n) p e = cond-false (ltb (lowest (test p) width) width) _ _ (le-ltb (lowest (test p) width) width e)

  pub driven_most : (n : ℕ) (p : ℕ → ℕ) → length (driven test width n p) ≤ n
  driven_most zero p = omega arith
  driven_most (suc n) p =
      elim (cases_lt (lowest (test p) width) width) [
        | inl l ↦
            let a = ap length (driven_found n p (lowest (test p) width) refl l) in
            let b = driven_most n (moved p (lowest (test p) width)) in
            omega arith
        | inr e ↦ let a = ap length (driven_none (suc n) p e) in omega arith
      ]

  -- a drive of n steps and m more
  pub driven_append : (n m : ℕ) (p : ℕ → ℕ) → driven test width (n + m) p ≡ driven test width n p ++ driven test width m (moved_by p (driven test width n p))
  driven_append zero m p = ap₂ (driven test width) (zero-add m) (sym (moved_by_none p))
  driven_append (suc n) m p =
      elim (cases_lt (lowest (test p) width) width) [
        | inl l ↦
            let i = lowest (test p) width in
            let w = driven test width n (moved p i) in
            ap (λ (x : ℕ). driven test width x p) (let z : suc n + m ≡ suc (n + m) = omega arith in z) ∙ driven_found (n + m) p i refl l ∙
            ap (λ (x : List ℕ). i ∷ x) (driven_append n m (moved p i)) ∙ ap (λ (q : ℕ → ℕ). i ∷ (w ++ driven test width m q)) (moved_by_cons p i w) ∙
            sym (ap onwards (driven_found n p i refl l))
        | inr e ↦
            driven_none (suc n + m) p e ∙ sym (driven_none m p e) ∙ ap (driven test width m) (sym (moved_by_none p)) ∙ sym (ap onwards (driven_none (suc n) p e))
      ]
    where
      onwards : List ℕ → List ℕ
      onwards w = w ++ driven test width m (moved_by p w)

  -- a loop's step: what was driven so far, and one more
  pub driven_more : (k : ℕ) (p : ℕ → ℕ) (w : List ℕ) (i : ℕ) → driven test width k p ≡ w → lowest (test (moved_by p w)) width ≡ i → i < width →
      driven test width (k + 1) p ≡ w ++ (i ∷ [])
  driven_more k p w i is e l =
      driven_append k 1 p ∙ ap (λ (u : List ℕ). u ++ driven test width 1 (moved_by p u)) is ∙ ap (λ (u : List ℕ). w ++ u) (driven_found 0 (moved_by p w) i e l)

  -- a loop's end before its count: no more can be driven
  pub driven_stops : (k n : ℕ) (p : ℕ → ℕ) (w : List ℕ) → driven test width k p ≡ w → k ≤ n → width ≤ lowest (test (moved_by p w)) width → driven test width n p ≡ w
  driven_stops k n p w is l e =
      ap (λ (x : ℕ). driven test width x p) (let z : n ≡ k + (n - k) = omega arith in z) ∙ driven_append k (n - k) p ∙
      ap (λ (u : List ℕ). u ++ driven test width (n - k) (moved_by p u)) is ∙ ap (λ (u : List ℕ). w ++ u) (driven_none (n - k) (moved_by p w) e) ∙ append-nil w

  -- a drive that is shorter than it might be stands where no step can be made
  pub driven_short : (n : ℕ) (p : ℕ → ℕ) → length (driven test width n p) < n → lowest (test (moved_by p (driven test width n p))) width ≡ width
  driven_short zero p l = absurd (omega arith)
  driven_short (suc n) p l =
      elim (cases_lt (lowest (test p) width) width) [
        | inl below ↦
            let i = lowest (test p) width in
            let w = driven test width n (moved p i) in
            let found = driven_found n p i refl below in
            let shorter = ap length found in
            ap after found ∙ ap (λ (q : ℕ → ℕ). lowest (test q) width) (sym (moved_by_cons p i w)) ∙ driven_short n (moved p i) (omega arith)
        | inr e ↦
            ap after (driven_none (suc n) p e) ∙ ap (λ (q : ℕ → ℕ). lowest (test q) width) (moved_by_none p) ∙
            (let most = lowest_most (test p) width in let z : lowest (test p) width ≡ width = omega arith in z)
      ]
    where
      after : List ℕ → ℕ
      after w = lowest (test (moved_by p w)) width
