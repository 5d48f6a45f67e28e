use Rattle.std.proofs.Common.{take}
use Rattle.std.specs.Fmt.{HasWritten, IsPlainFormatter}
use Rattle.replies.specs.AnswerLines.{each_after_a_space}
use Rattle.replies.proofs.answers.InstancesDisplay.fmt.Given as goal

abbrev pub invariant-loop-instance : goal.invariant-loop-instance
invariant-loop-instance g l =
    IsPlainFormatter l.initial.f → HasWritten g.W.Write.write_str_gives l.initial.f (each_after_a_space (take l.instance-index l.instance-items)) l.f
