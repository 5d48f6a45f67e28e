-- Hexadecimal digits, of either case, and the bytes that they write.
use Rattle.std.specs.Prelude.{ℕ, ◌+◌, ◌*◌, ◌-◌, Bool, true, false, ◌&&◌, cond, List, [], ◌∷◌, Option, Some, None, is_some, leb}

-- the value of a digit: of 0 to 9, of A to F, of a to f
abbrev pub digit : ℕ → Option ℕ
digit b =
    cond (leb 48 b && leb b 57) (Some (b - 48))
    (cond (leb 65 b && leb b 70) (Some (b - 55))
    (cond (leb 97 b && leb b 102) (Some (b - 87)) None))

-- the byte that two digits write, the high one first
abbrev pub byte_of : Option ℕ → Option ℕ → Option ℕ
byte_of (Some high) (Some low) = Some (16 * high + low)
byte_of (Some high) None = None
byte_of None low = None

-- digits, an even number of them
abbrev pub all_digits : List ℕ → Bool
all_digits [] = true
all_digits (a ∷ []) = false
all_digits (a ∷ b ∷ ds) = is_some (byte_of (digit a) (digit b)) && all_digits ds

-- the byte goes before the others; where there is none, nothing does
abbrev pub before : Option ℕ → List ℕ → List ℕ
before (Some b) bs = b ∷ bs
before None bs = []

-- the bytes that digits write, two a byte; none from the first two on that are no digits
abbrev pub bytes_of : List ℕ → List ℕ
bytes_of [] = []
bytes_of (a ∷ []) = []
bytes_of (a ∷ b ∷ ds) = before (byte_of (digit a) (digit b)) (bytes_of ds)
