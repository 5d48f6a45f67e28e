use Rattle.tables.proofs.Locating.{On}
use Rattle.tables.proofs.layout.Layout.locate.Given as goal

abbrev pub invariant-loop-i : goal.invariant-loop-i
invariant-loop-i l = On l.self.lengths.now l.i l.left l.at
