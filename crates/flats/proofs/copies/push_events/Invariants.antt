use Rattle.std.proofs.Common.{◌≡◌, ◌++◌, take, vec_items}
use Rattle.charts.specs.Lists.{column}
use Rattle.flats.proofs.copies.push_events.Given as goal

abbrev pub invariant-loop-k : goal.invariant-loop-k
invariant-loop-k g l = vec_items l.events ≡ vec_items l.initial.events ++ take l.k (column (g.C.Chart.lists l.chart) l.i)
