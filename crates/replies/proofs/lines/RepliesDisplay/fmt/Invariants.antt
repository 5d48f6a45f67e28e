use Rattle.std.proofs.Common.{take}
use Rattle.std.specs.Fmt.{HasWritten, IsPlainFormatter}
use Rattle.replies.specs.TurnLines.{turn_lines}
use Rattle.replies.proofs.lines.RepliesDisplay.fmt.Given as goal

abbrev pub invariant-loop-turn : goal.invariant-loop-turn
invariant-loop-turn g l =
    IsPlainFormatter l.initial.f → HasWritten g.W.Write.write_str_gives l.initial.f (turn_lines (take l.turn-index l.turn-items)) l.f
