-- The sentences of a chart text: words, up to a semicolon.
use Rattle.std.specs.Prelude.{ℕ, ◌+◌, ◌-◌, cond, List, [], ◌∷◌, ◌++◌, length, nat_lt, ◌==◌}
use Rattle.words.specs.declared.faults.Cause.{Cause}
use Rattle.words.specs.declared.faults.Cause.TheVariants.{BadByte, LongWord}
use Rattle.words.specs.Classes.{in_word, is_blank}

-- a word, and the place of its first byte
pub record Placed : Type 0 where
  pub start : ℕ
  pub bytes : List ℕ

-- what ends a sentence: a semicolon at a place, the end of the text, or a byte for which the text is refused
pub data Ending : Type 0 where
  semicolon : ℕ → Ending
  text_end : ℕ → Ending
  fault : Cause → ℕ → Ending

-- words and what ends them
pub record Sentence : Type 0 where
  pub words : List Placed
  pub ending : Ending

-- words with the one of these bytes before the place `at`, if any
abbrev pub with_word : List Placed → ℕ → List ℕ → List Placed
with_word ws at [] = ws
with_word ws at (b ∷ bs) = ws ++ (record { start = at - length (b ∷ bs); bytes = b ∷ bs } ∷ [])

-- the sentences of the bytes from the place `at` on, where the words ws of a sentence and the bytes w of a word stand before it
abbrev pub sentences_from : ℕ → List Placed → List ℕ → List ℕ → List Sentence
sentences_from at ws w [] = record { words = with_word ws at w; ending = text_end at } ∷ []
sentences_from at ws w (b ∷ bs) =
    -- a word has 16 bytes at most: a seventeenth is refused
    cond (in_word b) (cond (nat_lt (length w) 16) (sentences_from (at + 1) ws (w ++ (b ∷ [])) bs) (record { words = ws; ending = fault LongWord at } ∷ []))
    (cond (is_blank b) (sentences_from (at + 1) (with_word ws at w) [] bs)
    (cond (b == 59) (record { words = with_word ws at w; ending = semicolon at } ∷ sentences_from (at + 1) [] [] bs)
    -- a byte that is not allowed is refused, and a word before it is none
    (record { words = ws; ending = fault BadByte at } ∷ [])))

-- the sentences of a text
abbrev pub sentences : List ℕ → List Sentence
sentences text = sentences_from 0 [] [] text
