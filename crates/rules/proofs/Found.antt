-- A search for the lowest number.
use Rattle.std.proofs.Common.{◌≡◌, ℕ, ◌<◌, ◌≤◌, Bool, true, false, ltb, Some, None, Option, MatchOption, sym, ap, ◌∙◌, arith}
use Rattle.std.proofs.lemmas.Bool.{lt-ltb, le-ltb, cond-true, cond-false}
use Rattle.orders.specs.Driving.{lowest}
use Rattle.orders.proofs.Lowest.{lowest_is, lowest_none}
use Rattle.rules.specs.Held.{some_below}

-- the first of the numbers below n that passes, or none where none does
pub found : (test : ℕ → Bool) (n : ℕ) (r : Option ℕ) →
    MatchOption r ((k : ℕ) → 0 ≤ k → k < n → test k ≡ false) (λ i. (0 ≤ i) × (i < n) × (test i ≡ true) × ((k : ℕ) → 0 ≤ k → k < i → test k ≡ false)) →
    r ≡ some_below n (lowest test n)
found test n None none =
    sym (ap (some_below n) (lowest_none test n (λ k l. none k (omega arith) l)) ∙ cond-false (ltb n n) (Some n) None (le-ltb n n (omega arith)))
found test n (Some j) (_, h, t, below) =
    sym (ap (some_below n) (lowest_is test n j h t (λ k l. below k (omega arith) l)) ∙ cond-true (ltb j n) (Some j) None (lt-ltb j n h))
