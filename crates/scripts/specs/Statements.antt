-- The statement that a line of a script writes.
use Rattle.std.specs.Prelude.{◌≡◌, ℕ, cond, List, [], ◌∷◌, Some, None, codes, Option}
use Rattle.std.specs.Option.{option_map, option_or}
use Rattle.std.specs.Str.{bytes_eq}
use Rattle.tabletexts.specs.Table.{fields}
use Rattle.runs.specs.declared.calls.Call.{Call as RunCall}
use Rattle.piletexts.specs.Commands.{command_on}
use Rattle.piletexts.specs.declared.parts.Command.{Command}
use Rattle.scripts.specs.declared.parts.MediumCommand.{MediumCommand}
use Rattle.scripts.specs.declared.parts.Statement.{Statement}
use Rattle.scripts.specs.declared.parts.Statement.TheVariants.{Pile, Text, Medium, Log, Call}
use Rattle.scripts.specs.MediumLines.{medium_on}
use Rattle.scripts.specs.Calls.{call_on}
use Rattle.scripts.specs.Hex.{all_digits, bytes_of}

-- what a statement says
pub data Said : Type 0 where
  -- a command to the pile
  to_pile : Command → Said
  -- a chart text, on the lines that follow
  a_text : Said
  -- a command to the medium
  to_medium : MediumCommand → Said
  -- the bytes of a log
  a_log : List ℕ → Said
  -- a call with the length of its buffer
  a_call : RunCall × ℕ → Said

-- a log says the bytes that its digits write
abbrev pub said : Statement → Said
said (Pile c) = to_pile c
said Text = a_text
said (Medium m) = to_medium m
said (Log digits) = a_log (bytes_of digits.now)
said (Call c room) = a_call (c, room)

-- the word that a chart text follows, alone on its line
abbrev pub text_on : List ℕ → Option Said
text_on line = cond (bytes_eq line (codes "text")) (Some a_text) None

-- the bytes that the fields behind the word write: none without a field, else those of its digits in one field that is not empty
abbrev pub log_in : List (List ℕ) → Option (List ℕ)
log_in [] = Some []
log_in ([] ∷ fs) = None
log_in ((b ∷ bs) ∷ []) = cond (all_digits (b ∷ bs)) (Some (bytes_of (b ∷ bs))) None
log_in ((b ∷ bs) ∷ f ∷ fs) = None

-- the field that has the digits of a log, empty where none stands behind the word
abbrev pub digits_in : List (List ℕ) → List ℕ
digits_in [] = []
digits_in (f ∷ fs) = f

-- the bytes of the log in the fields of a line
abbrev pub log_fields : List (List ℕ) → Option (List ℕ)
log_fields [] = None
log_fields (w ∷ fs) = cond (bytes_eq w (codes "log")) (log_in fs) None

-- the bytes of the log on a line
abbrev pub log_on : List ℕ → Option (List ℕ)
log_on line = log_fields (fields line)

-- a command to the pile, a chart text, a command to the medium, a log, or a call
abbrev pub statement_on : List ℕ → Option Said
statement_on line =
    option_or (option_map to_pile (command_on line))
    (option_or (text_on line)
    (option_or (option_map to_medium (medium_on line))
    (option_or (option_map a_log (log_on line)) (option_map a_call (call_on line)))))

-- a log has the digits that stand behind the first word of its line
abbrev pub behind_word : List (List ℕ) → List ℕ
behind_word [] = []
behind_word (w ∷ fs) = digits_in fs

-- the digits of a log are those on the line
abbrev pub HasDigitsOf : List ℕ → Statement → Type 0
HasDigitsOf line (Pile c) = Unit {0}
HasDigitsOf line Text = Unit {0}
HasDigitsOf line (Medium m) = Unit {0}
HasDigitsOf line (Log digits) = digits.now ≡ behind_word (fields line)
HasDigitsOf line (Call c room) = Unit {0}

-- the line writes the statement, whatever else it may write
pub data Writes (line : List ℕ) : Said → Type 0 where
  pile : (c : Command) → command_on line ≡ Some c → Writes line (to_pile c)
  text : line ≡ codes "text" → Writes line a_text
  medium : (m : MediumCommand) → medium_on line ≡ Some m → Writes line (to_medium m)
  log : (bytes : List ℕ) → log_on line ≡ Some bytes → Writes line (a_log bytes)
  call : (p : RunCall × ℕ) → call_on line ≡ Some p → Writes line (a_call p)
