-- A text that is read into tables with room for every chart.
use Rattle.std.specs.Prelude.{◌≡◌, ℕ, List, Ok, Err, Result}
use Rattle.words.specs.declared.faults.Fault.{Fault}
use Rattle.words.specs.Sentences.{sentences}
use Rattle.texts.specs.declared.reading.Reading.{Reading}
use Rattle.texts.specs.declared.roomy.TextTables.{TextTables}
use Rattle.texts.specs.Readings.{Tables, tables, greatest, read_as, Reads}

-- the five tables
abbrev pub held : TextTables → Tables
held t = tables t.lengths t.events t.instances t.messages t.actions

-- the reading of the text, and the tables that hold its chart; or the text's fault
abbrev pub ReadsText : List ℕ → Result (Reading × TextTables) Fault → Type 0
ReadsText text (Ok x) = Reads (sentences text) greatest (Ok x.0) (held x.1)
ReadsText text (Err f) = read_as greatest (sentences text) ≡ Err f
