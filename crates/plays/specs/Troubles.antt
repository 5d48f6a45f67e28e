-- Why a script is not played: its first line that cannot be read, or the fault of its first chart text that is refused.
use Rattle.std.specs.Prelude.{◌≡◌, ℕ, Ok, Err, Result}
use Rattle.tabletexts.specs.declared.parts.Unread.{Unread}
use Rattle.tabletexts.specs.declared.parts.Unread.TheVariants.{Line as UnreadLine, Memory as NoMemory}
use Rattle.words.specs.declared.faults.Fault.{Fault}
use Rattle.plays.specs.declared.parts.Unplayed.{Unplayed}
use Rattle.plays.specs.declared.parts.Unplayed.TheVariants.{Line, Text, Memory}

pub data Trouble : Type 0 where
  -- the number of a line
  at_line : ℕ → Trouble
  -- the fault of a text
  in_text : Fault → Trouble

-- a line that cannot be read is a trouble
abbrev pub lined : {A : Type 0} → Result A ℕ → Result A Trouble
lined (Ok x) = Ok x
lined (Err n) = Err (at_line n)

-- why a text was not read, as why a script was not played
abbrev pub unplayed : Unread → Unplayed
unplayed (UnreadLine n) = Line n
unplayed NoMemory = Memory

-- the answer has what is said, by the meaning f of what it holds; only a want of memory says nothing
abbrev pub Answers : {A V : Type 0} → (V → A) → Result A Trouble → Result V Unplayed → Type 0
Answers f says (Ok v) = says ≡ Ok (f v)
Answers f says (Err (Line n)) = says ≡ Err (at_line n)
Answers f says (Err (Text e)) = says ≡ Err (in_text e)
Answers f says (Err Memory) = Unit {0}
