-- The lines of the calls and the logs of a script.
use Rattle.std.specs.Prelude.{ℕ, ◌-◌, List, [], ◌∷◌, ◌++◌, take, drop, Option, Some, None, Result}
use Rattle.listings.specs.Report.{line}
use Rattle.logs.specs.declared.parts.Verdict.{Verdict}
use Rattle.logs.specs.declared.parts.Refusal.{Refusal}
use Rattle.loglines.specs.LogLines.{log_line}
use Rattle.runs.specs.declared.calls.Turn.{Turn}
use Rattle.plays.specs.declared.parts.Log.{Log}
use Rattle.replies.specs.TurnLines.{turn_lines}

-- what a log is, with a line feed behind it; nothing where it was not checked
abbrev pub checked : Option (Result Verdict Refusal) → List ℕ
checked (Some said) = line (log_line said)
checked None = []

-- the lines of turns and of logs, where n turns stand before these: each log's line behind those of the turns that stand before it
abbrev pub lines_from : ℕ → List Turn → List Log → List ℕ
lines_from n turns [] = turn_lines turns
lines_from n turns (x ∷ logs) = turn_lines (take (x.after - n) turns) ++ checked x.answer ++ lines_from x.after (drop (x.after - n) turns) logs

-- the lines of a script, in its order
abbrev pub script_lines : List Turn → List Log → List ℕ
script_lines = lines_from 0
