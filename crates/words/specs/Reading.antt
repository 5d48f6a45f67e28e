-- Reading a chart text piece by piece.
use Rattle.std.specs.Prelude.{◌≡◌, ℕ, ◌+◌, ◌-◌, ◌<◌, ◌≤◌, ◌≢◌, List, [], ◌∷◌, length, take, drop, get_or, Ok, Err, Result}
use Rattle.words.specs.declared.parts.Word.{Word}
use Rattle.words.specs.declared.parts.Piece.{Piece}
use Rattle.words.specs.declared.parts.Piece.TheVariants.{Word as WordPiece, Semicolon, End}
use Rattle.words.specs.declared.faults.Fault.{Fault}
use Rattle.words.specs.declared.reader.Reader.{Reader}
use Rattle.words.specs.declared.classes.Class.TheVariants.{Blank}
use Rattle.words.specs.Classes.{class_of}
use Rattle.words.specs.Sentences.{Placed, Sentence, Ending, semicolon, text_end, fault, sentences_from}

-- what is left to read: the rest of a sentence, and the sentences after it
abbrev pub left : Reader → List Sentence
left r = sentences_from r.at [] [] (drop r.at r.text.now)

-- the first sentence of what is left; there always is one
abbrev pub first : List Sentence → Sentence
first [] = record { words = []; ending = text_end 0 }
first (s ∷ ss) = s

-- the sentences after the first
abbrev pub others : List Sentence → List Sentence
others [] = []
others (s ∷ ss) = ss

-- the same with a word before those of the first sentence
abbrev pub with_first_word : Placed → List Sentence → List Sentence
with_first_word w ss = record { words = w ∷ (first ss).words; ending = (first ss).ending } ∷ others ss

-- a sentence without words
abbrev pub ended_by : Ending → Sentence
ended_by e = record { words = []; ending = e }

-- a word in its place
abbrev pub placed : Word → Placed
placed w = record { start = w.start; bytes = w.bytes.now }

-- what was left begins with the piece that was read, or ends in the fault
abbrev pub BeginsWith : List Sentence → Result Piece Fault → List Sentence → Type 0
BeginsWith before (Ok (WordPiece w)) after = before ≡ with_first_word (placed w) after
BeginsWith before (Ok (Semicolon s)) after = before ≡ ended_by (semicolon s) ∷ after
BeginsWith before (Ok (End n)) after = (before ≡ ended_by (text_end n) ∷ []) × (after ≡ before)
BeginsWith before (Err f) after = (before ≡ ended_by (fault f.cause f.byte) ∷ []) × (after ≡ before)

-- the word stands in the text, and has 1 to 16 bytes
pub record StandsIn (text : List ℕ) (w : Placed) : Type 0 where
  pub within : w.start + length w.bytes ≤ length text
  pub bytes : w.bytes ≡ take (length w.bytes) (drop w.start text)
  pub some : 1 ≤ length w.bytes
  pub few : length w.bytes ≤ 16

-- a piece that is a word stands in the text
abbrev pub WordStandsIn : List ℕ → Result Piece Fault → Type 0
WordStandsIn text (Ok (WordPiece w)) = StandsIn text (placed w)
WordStandsIn text (Ok (Semicolon s)) = Unit {0}
WordStandsIn text (Ok (End n)) = Unit {0}
WordStandsIn text (Err f) = Unit {0}

-- from `at` to `next` stand only blanks, and none at `next`
pub record SkipsBlanks (text : List ℕ) (at next : ℕ) : Type 0 where
  pub within : next ≤ length text
  pub same : sentences_from at [] [] (drop at text) ≡ sentences_from next [] [] (drop next text)
  pub stops : next < length text → class_of (get_or text next 0) ≢ Blank

-- the word from `start` to `end`
abbrev pub word_in : List ℕ → ℕ → ℕ → Placed
word_in text start end = record { start = start; bytes = take (end - start) (drop start text) }

-- a word starts at `start`, and ends before the place answered; or the fault stands in it
abbrev pub WordFrom : List ℕ → ℕ → Result ℕ Fault → Type 0
WordFrom text start (Ok end) =
    (start < end) × (end ≤ length text) × (end ≤ start + 16) × (sentences_from start [] [] (drop start text) ≡ with_first_word (word_in text start end) (sentences_from end [] [] (drop end text)))
WordFrom text start (Err f) = sentences_from start [] [] (drop start text) ≡ ended_by (fault f.cause f.byte) ∷ []
