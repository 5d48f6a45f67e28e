-- Names that are noted one by one.
use Rattle.std.specs.Prelude.{◌≡◌, ℕ, ◌<◌, cond, List, map, length, Some, None, Option, Ok, Err, Result}
use Rattle.words.specs.declared.faults.Cause.TheVariants.{ShortTable}
use Rattle.words.specs.declared.faults.Fault.{Fault}
use Rattle.words.specs.Sentences.{Placed}
use Rattle.sentences.specs.Wants.{among, at_byte}
use Rattle.names.specs.Numbers.{Numbers, number_of, count}
use Rattle.texts.specs.declared.rows.Name.{Name}
use Rattle.texts.specs.Rows.{padded, no_name, row_of}
use Rattle.texts.specs.Numbering.{added, place_of}

-- the number of a name among distinct ones, none where it is no name of these
abbrev pub number_among : List Placed → List ℕ → Option ℕ
number_among ns q = cond (among ns q) (Some (place_of ns q)) None

-- the index is of these names
pub record Indexes (numbers : Numbers) (ns : List Placed) : Type 0 where
  pub known : (q : List ℕ) → number_of numbers q ≡ number_among ns q
  pub count : count numbers ≡ length ns

-- and so is the table
pub record Lists (numbers : Numbers) (table : List Name) (ns : List Placed) : Type 0 where
  pub index : Indexes numbers ns
  pub rows : table ≡ padded no_name (length table) (map row_of ns)

-- the index and the table are of one name more, unless it is one of them; a table without a row for it is too short
abbrev pub NotesName : List Placed → Placed → ℕ → Result (Unit {0}) Fault → Numbers → List Name → Type 0
NotesName ns n room (Ok u) numbers rows = Lists numbers rows (added ns n)
NotesName ns n room (Err f) numbers rows = (f ≡ at_byte ShortTable 0) × (room < length (added ns n))
