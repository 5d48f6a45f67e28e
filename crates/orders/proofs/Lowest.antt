-- The search for the lowest number that passes a test finds it.
use Rattle.std.proofs.Common.{◌≡◌, ℕ, zero, suc, ◌+◌, ◌<◌, ◌≤◌, Bool, true, false, cond, refl, subst, inl, inr, arith}
use Rattle.std.proofs.lemmas.Bool.{cases_lt, cases_eq, cases_order, both_ways}
use Rattle.orders.specs.Driving.{first_from, lowest}

-- f is the first of n numbers from k on that passes, the one after them where none does
record First (test : ℕ → Bool) (k n f : ℕ) : Type 0 where
  from : k ≤ f
  most : f ≤ k + n
  passes : f < k + n → test f ≡ true
  least : (j : ℕ) → k ≤ j → j < f → test j ≡ false

first_found : (test : ℕ → Bool) (k n : ℕ) → First test k n (first_from test k n)
first_found test k zero = record { from = omega arith; most = omega arith; passes = λ l. absurd (omega arith); least = λ j a b. absurd (omega arith) }
first_found test k (suc n) = go (test k) refl (first_found test (suc k) n)
  where
    go : (b : Bool) → test k ≡ b → First test (suc k) n (first_from test (suc k) n) → First test k (suc n) (cond b k (first_from test (suc k) n))
    go true y r = record { from = omega arith; most = omega arith; passes = λ _. y; least = λ j a b. absurd (omega arith) }
    go false y r =
        let a = r.from in
        let b = r.most in
        record {
          from = omega arith;
          most = omega arith;
          passes = λ l. r.passes (omega arith);
          least = λ j c d. elim (cases_eq k j) [ inl e ↦ subst (λ (x : ℕ). test x ≡ false) e y | inr e ↦ r.least j (omega (arith, e)) d ];
        }

module _ (test : ℕ → Bool) (n : ℕ) where
  pub lowest_most : lowest test n ≤ n
  lowest_most = let m = (first_found test 0 n).most in omega arith

  pub lowest_passes : lowest test n < n → test (lowest test n) ≡ true
  lowest_passes l = (first_found test 0 n).passes (omega arith)

  pub lowest_least : (j : ℕ) → j < lowest test n → test j ≡ false
  lowest_least j l = (first_found test 0 n).least j (omega arith) l

  -- the first that passes is the one found
  pub lowest_is : (i : ℕ) → i < n → test i ≡ true → ((j : ℕ) → j < i → test j ≡ false) → lowest test n ≡ i
  lowest_is i l y least =
      elim (cases_order (lowest test n) i) [
        | inl e ↦ e
        | inr (inl b) ↦ absurd (both_ways (test (lowest test n)) (least (lowest test n) b) (lowest_passes (omega arith)))
        | inr (inr b) ↦ absurd (both_ways (test i) (lowest_least i b) y)
      ]

  pub lowest_none : ((j : ℕ) → j < n → test j ≡ false) → lowest test n ≡ n
  lowest_none none =
      let m = lowest_most in
      elim (cases_lt (lowest test n) n)
      [ inl l ↦ absurd (both_ways (test (lowest test n)) (none (lowest test n) l) (lowest_passes l)) | inr l ↦ omega arith ]
