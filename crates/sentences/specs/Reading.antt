-- Reading a sentence word by word.
use Rattle.std.specs.Prelude.{◌≡◌, Bool, true, false, List, [], Some, None, Ok, Err, Result}
use Rattle.words.specs.declared.parts.Word.{Word}
use Rattle.words.specs.declared.faults.Cause.TheVariants.{WrongWord}
use Rattle.words.specs.declared.faults.Fault.{Fault}
use Rattle.words.specs.Sentences.{Placed, Sentence}
use Rattle.words.specs.Reading.{placed, first, others, with_first_word}
use Rattle.sentences.specs.Wants.{Want, at_byte, fault_of, no_word, word_fault, reads}

-- the words of the first sentence of what is left, where it has all that is wanted, or its fault
abbrev pub reads_first : List Want → List Sentence → Result (List Placed) Fault
reads_first ps left = reads ps (first left).words (first left).ending

-- a word was read off what was left; or there is none, which is this fault
abbrev pub TakesWord : List Sentence → Result Word Fault → List Sentence → Type 0
TakesWord before (Ok w) after = before ≡ with_first_word (placed w) after
TakesWord before (Err f) after = ((first before).words ≡ []) × (no_word (first before).ending ≡ f)

-- a word that is wanted was read off what was left; or what stands there has this fault
abbrev pub Takes : Want → List Sentence → Result Word Fault → List Sentence → Type 0
Takes p before (Ok w) after = (fault_of p w.bytes.now ≡ None) × (before ≡ with_first_word (placed w) after)
Takes p before (Err f) after = word_fault p (first before).words (first before).ending ≡ Some f

-- the word, where it is wanted; else it is refused
abbrev pub Accepts : Word → Bool → Result Word Fault → Type 0
Accepts w true r = r ≡ Ok w
Accepts w false r = r ≡ Err (at_byte WrongWord w.start)

-- the semicolon was read, and what is left are the sentences after it; or the first sentence has this fault
abbrev pub Closes : List Sentence → Result (Unit {0}) Fault → List Sentence → Type 0
Closes before (Ok u) after = (reads_first [] before ≡ Ok []) × (after ≡ others before)
Closes before (Err f) after = reads_first [] before ≡ Err f
