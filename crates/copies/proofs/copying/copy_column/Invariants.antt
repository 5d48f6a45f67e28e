use Rattle.std.proofs.Common.{◌≡◌, ℕ, ◌<◌, get_or}
use Rattle.charts.specs.Lists.{event_of}
use Rattle.copies.specs.Grids.{no_slot}
use Rattle.copies.proofs.copying.copy_column.Given as goal

abbrev pub invariant-loop-k : goal.invariant-loop-k
invariant-loop-k g l = (j : ℕ) → j < l.k → (get_or l.slots j no_slot).event ≡ event_of (g.C.Chart.lists l.chart) l.i j
