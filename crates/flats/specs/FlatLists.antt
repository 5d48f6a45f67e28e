-- The chart that owns its events: a verdict, the length of each instance's column, and the events, instance after instance.
use Rattle.std.specs.Prelude.{◌≡◌, ℕ, ◌<◌, List, map, length, take, Some, Ok, Err, sum, Option, Result, slice_index_or, refl}
use Rattle.charts.specs.declared.parts.Event.{Event}
use Rattle.charts.specs.declared.faults.Fault.{Fault}
use Rattle.charts.specs.declared.parts.Summary.{Summary}
use Rattle.charts.specs.Judged.{Judged, unspoiled}
use Rattle.checks.specs.Cut.{cut}
use Rattle.checks.specs.Checked.{checked}
use Rattle.tables.specs.TableLists.{table_judged}
use Rattle.flats.specs.declared.columns.Column.{Column}

-- a column without events
abbrev pub no_column : Column
no_column = record { start = 0; count = 0 }

-- the number of events in each column
abbrev pub counts : List Column → List ℕ
counts cs = map (λ c. c.count) cs

-- each column starts where the columns before it end
abbrev pub Placed : List Column → Type 0
Placed cs = (i : ℕ) → i < length cs → (slice_index_or cs i no_column).start ≡ sum (take i (counts cs))

-- the fault that was copied, else what is wrong with the table
abbrev pub flat_trouble : Result Summary Fault → List ℕ → List Event → Option Fault
flat_trouble (Ok s) ns es = checked ns es
flat_trouble (Err f) ns es = Some f

-- the lists cut from the table, none where there is trouble
abbrev pub flat_lists : Result Summary Fault → List ℕ → List Event → List (List Event)
flat_lists v ns es = unspoiled (flat_trouble v ns es) (cut ns es)

-- it owes what every chart owes, and gives it
pub flat_judged : (v : Result Summary Fault) (ns : List ℕ) (es : List Event) → Judged (flat_trouble v ns es) (flat_lists v ns es)
flat_judged (Ok s) ns es = table_judged ns es
flat_judged (Err f) ns es = refl
