-- A text cut at a byte: the pieces before, between and after its occurrences.
use Rattle.std.specs.Prelude.{ℕ, List, [], Some, None, Option, ◌==◌}
use Rattle.std.specs.Borrow.{Bor}
use Rattle.std.specs.List.{slice_split}

-- the pieces of a text between the bytes s; a text without one is a single piece
abbrev pub pieces : ℕ → List ℕ → List (List ℕ)
pieces s text = slice_split (λ b. b == s) text

-- the pieces of what follows a byte s, none where there is no such byte
abbrev pub pieces_after : ℕ → Option (Bor (List ℕ)) → List (List ℕ)
pieces_after s None = []
pieces_after s (Some rest) = pieces s rest.now
