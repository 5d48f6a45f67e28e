-- What is told of a log by a chart text, in the text's own names.
use Rattle.std.specs.Prelude.{◌≡◌, ℕ, List, [], ◌++◌, Result}
use Rattle.media.specs.Media.{free}
use Rattle.listings.specs.Report.{line}
use Rattle.records.specs.declared.parts.Entry.{Entry}
use Rattle.logs.specs.declared.parts.Refusal.{Refusal}
use Rattle.logs.specs.declared.parts.Verdict.{Verdict}
use Rattle.logs.specs.Logs.{LogAnswered}
use Rattle.loglines.specs.LogLines.{log_line}
use Rattle.words.specs.declared.faults.Fault.{Fault}
use Rattle.grammar.specs.Texts.{ChartText}
use Rattle.grammar.specs.Writing.{Writes}
use Rattle.texts.specs.Charted.{lists_of}
use Rattle.texts.specs.Static.{Static}
use Rattle.texts.specs.FirstFault.{FirstFault}
use Rattle.lines.specs.Lines.{refusal_line}
use Rattle.judged.specs.Told.{TellsSteps}
use Rattle.logged.specs.Taken.{TakenOf, instances_of}

-- told are the events of the entries that are taken, each with its place and by the names of the text, and the answer to the log
pub record TellsAnswer (c : ChartText) (log bytes : List ℕ) : Type 0 where
  pub said : Result Verdict Refusal
  pub answered : LogAnswered free (lists_of c) log said
  pub entries : List Entry
  pub taken : TakenOf free (lists_of c) log entries
  pub steps : List ℕ
  pub tells : TellsSteps c [] (instances_of entries) steps
  pub bytes_are : bytes ≡ steps ++ line (log_line said)

-- the lines of a log by a text
pub data TellsLog (text log bytes : List ℕ) : Type 0 where
  -- the text writes a chart that keeps the static requirements
  answers : (c : ChartText) → Writes text c → Static c → TellsAnswer c log bytes → TellsLog text log bytes
  -- or it writes no such chart: told is the number of its first fault, and the byte where it stands
  refused : (f : Fault) → FirstFault text f → bytes ≡ refusal_line f → TellsLog text log bytes
