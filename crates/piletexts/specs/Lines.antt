-- The lines of a text: each ends in a line feed, which the last may lack.
use Rattle.std.specs.Prelude.{ℕ, List, [], ◌∷◌}
use Rattle.tabletexts.specs.Pieces.{pieces}

-- without an empty piece at the end
abbrev pub closed : List (List ℕ) → List (List ℕ)
closed [] = []
closed ([] ∷ []) = []
closed ((b ∷ bs) ∷ []) = (b ∷ bs) ∷ []
closed (p ∷ q ∷ ps) = p ∷ closed (q ∷ ps)

-- the pieces between the line feeds, without the empty one behind the last of them
abbrev pub lines_of : List ℕ → List (List ℕ)
lines_of text = closed (pieces 10 text)
