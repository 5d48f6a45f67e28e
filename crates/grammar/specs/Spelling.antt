-- Bytes that spell words and semicolons, with blanks between them.
use Rattle.std.specs.Prelude.{◌≡◌, ℕ, Bool, true, not, ◌&&◌, List, [], ◌∷◌, ◌++◌, length, nat_le}
use Rattle.std.specs.List.{list_all}
use Rattle.words.specs.Classes.{in_word, is_blank}
use Rattle.grammar.specs.Pieces.{Piece, word, semicolon}

-- 1 to 16 letters, digits and underscores
abbrev pub is_word : List ℕ → Bool
is_word w = (nat_le 1 (length w) && nat_le (length w) 16) && list_all in_word w

-- a word before these bytes ends there: they go on with no byte that stands in words
abbrev pub ends_word : List ℕ → Bool
ends_word [] = true
ends_word (b ∷ bs) = not (in_word b)

-- the text is these pieces, in their order, and blanks
pub data Spells : List ℕ → List Piece → Type 0 where
  nothing : {text : List ℕ} → list_all is_blank text ≡ true → Spells text []
  then_semicolon : {text : List ℕ} {ps : List Piece} (blanks rest : List ℕ) → text ≡ blanks ++ (59 ∷ rest) → list_all is_blank blanks ≡ true → Spells rest ps → Spells text (semicolon ∷ ps)
  then_word : {text : List ℕ} {ps : List Piece} (blanks w rest : List ℕ) → text ≡ blanks ++ (w ++ rest) → list_all is_blank blanks ≡ true → is_word w ≡ true → ends_word rest ≡ true → Spells rest ps →
      Spells text (word w ∷ ps)
