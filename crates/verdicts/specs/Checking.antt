-- What the check of a log says, by a chart text.
use Rattle.std.specs.Prelude.{◌≡◌, ℕ, List, Ok, Err, Result}
use Rattle.charts.specs.declared.parts.Event.{Event}
use Rattle.media.specs.Media.{free}
use Rattle.words.specs.declared.faults.Fault.{Fault}
use Rattle.texts.specs.Readings.{Answer}
use Rattle.logs.specs.declared.parts.Refusal.{Refusal}
use Rattle.logs.specs.declared.parts.Refusal.TheVariants.{Spoiled, Record}
use Rattle.logs.specs.declared.parts.Verdict.{Verdict}
use Rattle.logs.specs.declared.parts.Verdict.TheVariants.{Full, Part}
use Rattle.logs.specs.Logs.{LogAnswered}
use Rattle.logs.specs.AnnexB.{AsAnnexB}
use Rattle.verdicts.specs.declared.answers.LogAnswer.{LogAnswer}
use Rattle.verdicts.specs.Answers.{full, part, text_refused, log_refused}
use Rattle.verdicts.specs.Charts.{read, lists_of}

-- the verdict on a log, or its refusal, in numbers; a chart that was read has no fault
abbrev pub Says : Result Verdict Refusal → LogAnswer → Type 0
Says (Ok Full) x = x ≡ full
Says (Ok Part) x = x ≡ part
Says (Err (Record n c)) x = x ≡ log_refused n c
Says (Err (Spoiled f)) x = ⊥

-- the verdict r on a log of a chart with these lists: the check's, and that of Annex B
pub record Checked (L : List (List Event)) (log : List ℕ) (r : Result Verdict Refusal) (x : LogAnswer) : Type 0 where
  pub answered : LogAnswered free L log r
  pub annex : AsAnnexB L log r
  pub says : Says r x

-- what the check says of a log by a text that was read, or the text's fault
abbrev pub ChecksRead : Result Answer Fault → List (List Event) → List ℕ → LogAnswer → Type 0
ChecksRead (Ok a) L log x = (r : Result Verdict Refusal) × Checked L log r x
ChecksRead (Err f) L log x = x ≡ text_refused f

-- what the check says of a log by a text
abbrev pub ChecksLog : List ℕ → List ℕ → LogAnswer → Type 0
ChecksLog text log x = ChecksRead (read text) (lists_of text) log x
