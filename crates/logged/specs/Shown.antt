-- The lines of a log by a listing of its chart.
use Rattle.std.specs.Prelude.{◌≡◌, ℕ, List, [], ◌++◌, Ok, Err, Result}
use Rattle.media.specs.Media.{free}
use Rattle.listings.specs.Report.{line}
use Rattle.records.specs.declared.parts.Entry.{Entry}
use Rattle.logs.specs.declared.parts.Refusal.{Refusal}
use Rattle.logs.specs.declared.parts.Verdict.{Verdict}
use Rattle.logs.specs.Logs.{LogAnswered}
use Rattle.loglines.specs.LogLines.{log_line}
use Rattle.words.specs.declared.faults.Fault.{Fault}
use Rattle.words.specs.Sentences.{sentences}
use Rattle.texts.specs.Readings.{Answer, greatest, read_as}
use Rattle.lines.specs.declared.listing.Listing.{Listing}
use Rattle.lines.specs.Lines.{refusal_line}
use Rattle.judged.specs.Shown.{chart_in, step_lines, ListsText}
use Rattle.logged.specs.Taken.{TakenOf, instances_of}

-- the answer to a log of the listing's chart and the entries that are taken, with the lines of their events and of the answer
pub record ShowsLog (l : Listing) (log bytes : List ℕ) : Type 0 where
  pub said : Result Verdict Refusal
  pub answered : LogAnswered free (chart_in l) log said
  pub entries : List Entry
  pub taken : TakenOf free (chart_in l) log entries
  pub bytes_are : bytes ≡ step_lines l [] (instances_of entries) ++ line (log_line said)

-- the lines of a log and of a text that is read as a chart, or the line of the text's fault
abbrev pub ShowsRead : List ℕ → Result Answer Fault → List ℕ → List ℕ → Type 0
ShowsRead text (Ok a) log bytes = (l : Listing) × ListsText text a l × ShowsLog l log bytes
ShowsRead text (Err f) log bytes = bytes ≡ refusal_line f

-- the lines of a log by a text
abbrev pub Shows : List ℕ → List ℕ → List ℕ → Type 0
Shows text log bytes = ShowsRead text (read_as greatest (sentences text)) log bytes
