-- The pieces in a list of sentences.
use Rattle.std.proofs.Common.{◌≤◌, ◌&&◌, length, nat_le, leb-true, le-leb, ◌≡◌, ℕ, Bool, true, false, List, [], ◌∷◌, ◌++◌, map, refl}
use Rattle.std.specs.List.{list_all}
use Rattle.std.proofs.lemmas.Bool.{and_parts, and_from}
use Rattle.words.specs.Classes.{in_word}
use Rattle.words.specs.Sentences.{Placed, Sentence, Ending, semicolon as ends_at, text_end, fault}
use Rattle.words.specs.Reading.{with_first_word}
use Rattle.grammar.specs.Pieces.{Piece, word, semicolon}
use Rattle.grammar.specs.Spelling.{is_word}

-- a word's length and bytes
pub record IsWord (w : List ℕ) : Type 0 where
  pub some : 1 ≤ length w
  pub few : length w ≤ 16
  pub bytes : list_all in_word w ≡ true

pub word_is : (w : List ℕ) → is_word w ≡ true → IsWord w
word_is w h =
    let a = and_parts (nat_le 1 (length w) && nat_le (length w) 16) (list_all in_word w) h in
    let b = and_parts (nat_le 1 (length w)) (nat_le (length w) 16) a.0 in
    record { some = leb-true 1 (length w) b.0; few = leb-true (length w) 16 b.1; bytes = a.1 }

pub a_word : (w : List ℕ) → 1 ≤ length w → length w ≤ 16 → list_all in_word w ≡ true → is_word w ≡ true
a_word w some few bytes =
    and_from (nat_le 1 (length w) && nat_le (length w) 16) (list_all in_word w) (and_from (nat_le 1 (length w)) (nat_le (length w) 16) (le-leb 1 (length w) some) (le-leb (length w) 16 few)) bytes

-- an ending and what follows it
abbrev pub whole_by : Ending → Bool → Bool
whole_by (ends_at n) after = after
whole_by (text_end n) after = true
whole_by (fault c n) after = false

-- no sentence ends in a fault
abbrev pub whole : List Sentence → Bool
whole [] = true
whole (s ∷ ss) = whole_by s.ending (whole ss)

-- an ending and the pieces after it
abbrev pub pieces_by : Ending → List Piece → List Piece
pieces_by (ends_at n) after = semicolon ∷ after
pieces_by (text_end n) after = []
pieces_by (fault c n) after = []

-- the bytes of words
abbrev pub bytes_of : List Placed → List (List ℕ)
bytes_of ws = map (λ w. w.bytes) ws

-- the words and semicolons of sentences
abbrev pub pieces_in : List Sentence → List Piece
pieces_in [] = []
pieces_in (s ∷ ss) = map word (bytes_of s.words) ++ pieces_by s.ending (pieces_in ss)

-- no sentence ends in a fault, and these are the pieces
pub record Lexed (ss : List Sentence) (ps : List Piece) : Type 0 where
  pub whole : whole ss ≡ true
  pub pieces : pieces_in ss ≡ ps

-- one word more before the first sentence
pub whole_word : (p : Placed) (ss : List Sentence) → whole (with_first_word p ss) ≡ whole ss
whole_word p [] = refl
whole_word p (s ∷ ss) = refl

pub pieces_word : (p : Placed) (ss : List Sentence) → pieces_in (with_first_word p ss) ≡ word p.bytes ∷ pieces_in ss
pieces_word p [] = refl
pieces_word p (s ∷ ss) = refl
