use Rattle.std.proofs.Common.{vec_items}
use Rattle.flats.proofs.Turns.{Firsts}
use Rattle.flats.proofs.flat.Flat.new.Given as goal

abbrev pub invariant-loop-i : goal.invariant-loop-i
invariant-loop-i g l = Firsts (vec_items l.columns) (vec_items l.events) l.i (g.C.Chart.lists l.chart)
