-- The chart that a text writes.
use Rattle.std.specs.Prelude.{◌≡◌, ℕ, List, map, take, Ok, Err, Result}
use Rattle.charts.specs.declared.parts.Event.{Event}
use Rattle.words.specs.declared.faults.Fault.{Fault}
use Rattle.words.specs.Sentences.{sentences}
use Rattle.items.specs.Items.{Item}
use Rattle.items.specs.Surveys.{items_in}
use Rattle.tables.specs.TableLists.{table_lists}
use Rattle.texts.specs.declared.rows.Name.{Name}
use Rattle.texts.specs.Rows.{padded, no_name, row_of}
use Rattle.texts.specs.Directories.{named_in}
use Rattle.texts.specs.Readings.{Answer, greatest, read_as, lengths_in, rows_in}
use Rattle.verdicts.specs.declared.charted.Charted.{Charted}

-- what a text is read as, or its fault
abbrev pub read : List ℕ → Result Answer Fault
read text = read_as greatest (sentences text)

-- the items of a text
abbrev pub items_of : List ℕ → List Item
items_of text = items_in (sentences text)

-- the lists of a text's chart
abbrev pub lists_of : List ℕ → List (List Event)
lists_of text = table_lists (lengths_in (items_of text)) (rows_in (items_of text))

-- where the names of its instances stand
abbrev pub names_of : List ℕ → List Name
names_of text = map row_of (named_in (items_of text)).instances

-- the tables are of the text's chart
pub record Holds (text : List ℕ) (c : Charted) : Type 0 where
  pub lengths : take c.width c.lengths ≡ lengths_in (items_of text)
  pub events : take c.count c.events ≡ rows_in (items_of text)
  pub names : c.names ≡ padded no_name 32 (names_of text)

-- the tables of a text, or its fault
abbrev pub ReadsChart : List ℕ → Result Charted Fault → Type 0
ReadsChart text (Ok c) = ((a : Answer) × (read text ≡ Ok a)) × Holds text c
ReadsChart text (Err f) = read text ≡ Err f
