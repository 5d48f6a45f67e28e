-- A number in decimal: one or more digits, and nothing else.
use Rattle.std.specs.Prelude.{ℕ, ◌+◌, ◌-◌, ◌*◌, Bool, cond, ◌&&◌, List, [], ◌∷◌, Some, None, Option, nat_le}

-- the byte is one of `0` to `9`
abbrev pub is_digit : ℕ → Bool
is_digit b = nat_le 48 b && nat_le b 57

-- the number that digits write behind those of n
abbrev pub numeral_after : ℕ → List ℕ → Option ℕ
numeral_after n [] = Some n
numeral_after n (b ∷ bs) = cond (is_digit b) (numeral_after (n * 10 + (b - 48)) bs) None

-- the number that the bytes write
abbrev pub numeral : List ℕ → Option ℕ
numeral [] = None
numeral (b ∷ bs) = numeral_after 0 (b ∷ bs)

-- a number of at most m
abbrev pub up_to : ℕ → Option ℕ → Option ℕ
up_to m None = None
up_to m (Some n) = cond (nat_le n m) (Some n) None
