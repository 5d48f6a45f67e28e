-- What a medium does with messages.
use Rattle.std.specs.Prelude.{◌≡◌, ℕ, ◌≤◌, Bool, true}

-- two yes-or-no answers: whether i may output to j with w messages on the way from i to j,
-- and whether j may input a message of i with a others ahead of it
pub record Carry : Type 0 where
  pub send : ℕ → ℕ → ℕ → Bool
  pub take : ℕ → ℕ → ℕ → Bool
  -- the law: a send allowed at w is allowed at every smaller number
  pub falls : (i j v w : ℕ) → v ≤ w → send i j w ≡ true → send i j v ≡ true
