-- A sum does not depend on the order of its parts.
use Rattle.std.proofs.Common.{◌≡◌, ℕ, zero, suc, ◌+◌, ◌<◌, cond, eqb, sym, refl, ap, ◌∙◌, inl, inr, arith}
use Rattle.std.proofs.lemmas.Bool.{cond-true, cond-false, eq-eqb, ne_eqb, cases_eq}

-- c 0 and so on up to c (n - 1), added up
abbrev pub total : (ℕ → ℕ) → ℕ → ℕ
total c zero = 0
total c (suc n) = total c n + c n

pub total_same : (a b : ℕ → ℕ) (n : ℕ) → ((i : ℕ) → i < n → a i ≡ b i) → total a n ≡ total b n
total_same a b zero h = refl
total_same a b (suc n) h = let r = total_same a b n (λ i l. h i (omega arith)) in let e = h n (omega arith) in omega arith

pub total_front : (c : ℕ → ℕ) (n : ℕ) → total c (suc n) ≡ c 0 + total (λ i. c (suc i)) n
total_front c zero = omega arith
total_front c (suc n) = let r = total_front c n in omega arith

total_none : (a : ℕ → ℕ) (n : ℕ) → ((i : ℕ) → i < n → a i ≡ 0) → total a n ≡ 0
total_none a zero h = refl
total_none a (suc n) h = let r = total_none a n (λ i l. h i (omega arith)) in let e = h n (omega arith) in omega arith

total_add : (a b : ℕ → ℕ) (n : ℕ) → total (λ i. a i + b i) n ≡ total a n + total b n
total_add a b zero = refl
total_add a b (suc n) = let r = total_add a b n in omega arith

total_swap : (h : ℕ → ℕ → ℕ) (m n : ℕ) → total (λ j. total (λ i. h i j) n) m ≡ total (λ i. total (λ j. h i j) m) n
total_swap h zero n = sym (total_none (λ i. 0) n (λ i l. refl))
total_swap h (suc m) n = let r = total_swap h m n in let e = total_add (λ i. total (λ j. h i j) m) (λ i. h i m) n in omega arith

-- c at k alone
abbrev only : (ℕ → ℕ) → ℕ → ℕ → ℕ
only c k i = cond (eqb k i) (c i) 0

only_yes : (c : ℕ → ℕ) (k i : ℕ) → k ≡ i → only c k i ≡ c i
only_yes c k i e = cond-true (eqb k i) (c i) 0 (eq-eqb k i e)

only_no : (c : ℕ → ℕ) (k i : ℕ) → (k ≡ i → ⊥) → only c k i ≡ 0
only_no c k i n = cond-false (eqb k i) (c i) 0 (ne_eqb k i n)

total_only : (c : ℕ → ℕ) (k n : ℕ) → k < n → total (only c k) n ≡ c k
total_only c k zero l = absurd (omega arith)
total_only c k (suc n) l =
    elim (cases_eq k n) [
      | inl e ↦
          let a = total_none (only c k) n (λ i b. only_no c k i (λ f. omega arith)) in
          let b = only_yes c k n e in
          let d = ap c e in
          omega arith
      | inr f ↦ let r = total_only c k n (omega arith) in let b = only_no c k n f in omega arith
    ]

-- t takes the place of each number below w by another, and s takes it back
pub total_turned : (c s t : ℕ → ℕ) (w : ℕ) → ((j : ℕ) → j < w → t j < w) → ((j : ℕ) → j < w → s (t j) ≡ j) → ((i : ℕ) → i < w → s i < w) → ((i : ℕ) → i < w → t (s i) ≡ i) →
    total (λ j. c (t j)) w ≡ total c w
total_turned c s t w t_in s_t s_in t_s =
    total_same (λ j. c (t j)) (λ j. total (only c (t j)) w) w (λ j l. sym (total_only c (t j) w (t_in j l))) ∙
    total_swap (λ i j. only c (t j) i) w w ∙
    total_same (λ i. total (λ j. only c (t j) i) w) c w (λ i l.
    total_same (λ j. only c (t j) i) (only (λ _. c i) (s i)) w (λ j b. turned i j l b) ∙ total_only (λ _. c i) (s i) w (s_in i l))
  where
    turned : (i j : ℕ) → i < w → j < w → only c (t j) i ≡ only (λ _. c i) (s i) j
    turned i j l b =
        elim (cases_eq (t j) i) [
          | inl e ↦ only_yes c (t j) i e ∙ sym (only_yes (λ _. c i) (s i) j (sym (ap s e) ∙ s_t j b))
          | inr n ↦ only_no c (t j) i n ∙ sym (only_no (λ _. c i) (s i) j (λ e. n (sym (ap t e) ∙ t_s i l)))
        ]
