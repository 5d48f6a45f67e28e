-- The names of a whole text.
use Rattle.std.specs.Prelude.{◌≡◌, ℕ, List, Ok, Err, Result}
use Rattle.words.specs.declared.faults.Cause.TheVariants.{ShortTable}
use Rattle.words.specs.declared.faults.Fault.{Fault}
use Rattle.sentences.specs.Wants.{at_byte}
use Rattle.texts.specs.declared.rows.Name.{Name}
use Rattle.texts.specs.declared.directory.Directory.{Directory}
use Rattle.texts.specs.Directories.{Named, Holds, TooShort}

-- the directory and the tables are of these names; or a table is too short
abbrev pub ListsNames : Named → ℕ → ℕ → ℕ → Result Directory Fault → List Name → List Name → List Name → Type 0
ListsNames s ri rm ra (Ok d) i m a = Holds d i m a s
ListsNames s ri rm ra (Err f) i m a = (f ≡ at_byte ShortTable 0) × TooShort ri rm ra s
