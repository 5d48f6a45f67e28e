-- What may stand at the places of a sentence, and the words of one that has it.
use Rattle.std.specs.Prelude.{ℕ, Bool, false, cond, ◌||◌, List, [], ◌∷◌, Some, None, Option, Ok, Err, Result, codes}
use Rattle.std.specs.Option.{option_map}
use Rattle.std.specs.Str.{bytes_eq}
use Rattle.words.specs.declared.faults.Cause.{Cause}
use Rattle.words.specs.declared.faults.Cause.TheVariants.{WrongWord, TextEnds, InstanceRepeated}
use Rattle.words.specs.declared.faults.Fault.{Fault}
use Rattle.words.specs.Sentences.{Placed, Ending, semicolon, text_end, fault}

-- the words of the grammar around instances
abbrev pub structure_word : List ℕ → Bool
structure_word w = bytes_eq w (codes "msc") || (bytes_eq w (codes "endmsc") || (bytes_eq w (codes "instance") || bytes_eq w (codes "endinstance")))

-- those of events
abbrev pub event_word : List ℕ → Bool
event_word w =
    bytes_eq w (codes "in") || (bytes_eq w (codes "from") || (bytes_eq w (codes "out") || (bytes_eq w (codes "to") || (bytes_eq w (codes "action") || bytes_eq w (codes "env")))))

-- they are no names
abbrev pub reserved : List ℕ → Bool
reserved w = structure_word w || event_word w

-- one of the words has these bytes
abbrev pub among : List Placed → List ℕ → Bool
among [] w = false
among (n ∷ ns) w = bytes_eq n.bytes w || among ns w

-- what may stand at a place: this word, a name, a name that is none of these, or a name or `env`
pub data Want : Type 0 where
  exactly : List ℕ → Want
  name : Want
  new_name : List Placed → Want
  peer : Want

-- why a word that is not wanted is refused
abbrev pub fault_of : Want → List ℕ → Option Cause
fault_of (exactly v) w = cond (bytes_eq w v) None (Some WrongWord)
fault_of name w = cond (reserved w) (Some WrongWord) None
fault_of (new_name ns) w = cond (reserved w) (Some WrongWord) (cond (among ns w) (Some InstanceRepeated) None)
fault_of peer w = cond (bytes_eq w (codes "env")) None (cond (reserved w) (Some WrongWord) None)

-- refused at a byte
abbrev pub at_byte : Cause → ℕ → Fault
at_byte c b = record { cause = c; byte = b }

-- the fault where a word is wanted and there is none
abbrev pub no_word : Ending → Fault
no_word (semicolon b) = at_byte WrongWord b
no_word (text_end n) = at_byte TextEnds n
no_word (fault c b) = at_byte c b

-- the fault at the first of these words where p is wanted, none where it is the word wanted
abbrev pub word_fault : Want → List Placed → Ending → Option Fault
word_fault p [] e = Some (no_word e)
word_fault p (w ∷ ws) e = option_map (λ c. at_byte c w.start) (fault_of p w.bytes)

-- a word and then others, or their fault
abbrev pub and_then : Placed → Result (List Placed) Fault → Result (List Placed) Fault
and_then w (Ok ws) = Ok (w ∷ ws)
and_then w (Err f) = Err f

-- a word that is wanted and then others, or the word's fault
abbrev pub if_wanted : Option Cause → Placed → Result (List Placed) Fault → Result (List Placed) Fault
if_wanted None w r = and_then w r
if_wanted (Some c) w r = Err (at_byte c w.start)

-- nothing is left but the semicolon
abbrev pub closed : List Placed → Ending → Result (List Placed) Fault
closed [] (semicolon b) = Ok []
closed [] (text_end n) = Err (at_byte TextEnds n)
closed [] (fault c b) = Err (at_byte c b)
closed (w ∷ ws) e = Err (at_byte WrongWord w.start)

-- the words of a sentence that has all that is wanted and then ends, or its first fault
abbrev pub reads : List Want → List Placed → Ending → Result (List Placed) Fault
reads [] ws e = closed ws e
reads (p ∷ ps) [] e = Err (no_word e)
reads (p ∷ ps) (w ∷ ws) e = if_wanted (fault_of p w.bytes) w (reads ps ws e)
