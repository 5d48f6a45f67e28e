-- Checks one after the other.
use Rattle.std.specs.Prelude.{Bool, true, false, List, [], ◌∷◌, Some, None, Option}

-- the answer x where the test fails, else none
abbrev pub unless : {X : Type 0} → Bool → X → Option X
unless true x = None
unless false x = Some x

-- the first answer, else the second
abbrev pub or_else : {X : Type 0} → Option X → Option X → Option X
or_else None o = o
or_else (Some x) o = Some x

-- the first answer among several
abbrev pub earliest : {X : Type 0} → List (Option X) → Option X
earliest [] = None
earliest (o ∷ os) = or_else o (earliest os)
