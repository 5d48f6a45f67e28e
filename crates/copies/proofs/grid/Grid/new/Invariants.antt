use Rattle.copies.proofs.Begun.{Begun}
use Rattle.copies.proofs.grid.Grid.new.Given as goal

abbrev pub invariant-loop-i : goal.invariant-loop-i
invariant-loop-i g l = Begun l.columns l.slots l.i l.events (g.C.Chart.lists l.chart)
