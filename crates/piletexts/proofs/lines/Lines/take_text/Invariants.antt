use Rattle.std.proofs.Common.{length}
use Rattle.piletexts.specs.Lines.{lines_of}
use Rattle.piletexts.proofs.Feeding.{Fed}
use Rattle.piletexts.proofs.lines.Lines.take_text.Given as goal

abbrev pub invariant-loop-line : goal.invariant-loop-line
invariant-loop-line l =
    Fed l.initial.self.rest.now l.initial.self.number l.length l.self.number (lines_of l.self.rest.now)

abbrev pub decreases-loop-line : goal.decreases-loop-line
decreases-loop-line l = length (lines_of l.self.rest.now)
