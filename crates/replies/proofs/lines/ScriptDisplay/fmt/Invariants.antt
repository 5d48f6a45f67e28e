use Rattle.std.proofs.Common.{◌≡◌, ℕ, List, ◌++◌, drop}
use Rattle.std.specs.Fmt.{HasWritten, IsPlainFormatter}
use Rattle.replies.specs.ScriptLines.{lines_from, script_lines}
use Rattle.replies.proofs.lines.ScriptDisplay.fmt.Given as goal

-- what was written, and the lines of what is left, are the lines of the whole
abbrev pub invariant-loop-log : goal.invariant-loop-log
invariant-loop-log g l =
    IsPlainFormatter l.initial.f →
    (w : List ℕ) × HasWritten g.W.Write.write_str_gives l.initial.f w l.f
    × (w ++ lines_from l.shown l.left (drop l.log-index l.log-items) ≡ script_lines l.initial.self.turns.now l.log-items)
