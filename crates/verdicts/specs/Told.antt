-- What judge and the check of a log tell of a chart text, by the chart that it writes.
use Rattle.std.specs.Prelude.{◌≡◌, ℕ, List, Result}
use Rattle.words.specs.declared.faults.Fault.{Fault}
use Rattle.grammar.specs.Texts.{ChartText}
use Rattle.grammar.specs.Writing.{Writes}
use Rattle.texts.specs.declared.rows.Name.{Name}
use Rattle.texts.specs.Names.{instance_names}
use Rattle.texts.specs.Charted.{lists_of}
use Rattle.texts.specs.Static.{Static}
use Rattle.texts.specs.Builds.{StandFor}
use Rattle.texts.specs.FirstFault.{FirstFault}
use Rattle.logs.specs.declared.parts.Refusal.{Refusal}
use Rattle.logs.specs.declared.parts.Verdict.{Verdict}
use Rattle.verdicts.specs.declared.answers.Judgement.{Judgement}
use Rattle.verdicts.specs.declared.answers.LogAnswer.{LogAnswer}
use Rattle.verdicts.specs.Answers.{refused, text_refused}
use Rattle.verdicts.specs.Judging.{Judges}
use Rattle.verdicts.specs.Checking.{Checked}

-- what judge tells of a text
pub data TellsJudgement (text : List ℕ) (j : Judgement) : Type 0 where
  -- it writes a chart that keeps the static requirements: told is what judge says of the chart, with rows of the text where the names of its instances stand
  of_chart : (c : ChartText) → Writes text c → Static c → (names : List Name) → StandFor text names (instance_names c) → Judges (lists_of c) names j → TellsJudgement text j
  -- or it writes no such chart: told is its first fault
  of_fault : (f : Fault) → FirstFault text f → j ≡ refused f → TellsJudgement text j

-- what the check of a log tells by a text
pub data TellsLog (text log : List ℕ) (x : LogAnswer) : Type 0 where
  -- it writes a chart that keeps the static requirements: told is what the check says of the log by the chart
  by_chart : (c : ChartText) → Writes text c → Static c → (r : Result Verdict Refusal) → Checked (lists_of c) log r x → TellsLog text log x
  -- or it writes no such chart: told is its first fault
  by_fault : (f : Fault) → FirstFault text f → x ≡ text_refused f → TellsLog text log x
