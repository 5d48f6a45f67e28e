use Rattle.std.proofs.Common.{◌≡◌, take}
use Rattle.verdicts.specs.Answers.{rows_of}
use Rattle.verdicts.proofs.members.rows.Given as goal

abbrev pub invariant-loop-k : goal.invariant-loop-k
invariant-loop-k l = l.rows ≡ rows_of l.names (take l.k l.ring)
