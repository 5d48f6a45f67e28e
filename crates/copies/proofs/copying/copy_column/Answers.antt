use Rattle.std.proofs.Common.{arith}
use Rattle.charts.specs.Lists.{column}
use Rattle.copies.proofs.Events.{same_events}
use Rattle.copies.proofs.copying.copy_column.Goals as goal

pub returns : goal.returns
returns g c =
    same_events c.loop-k.slots (column (g.C.Chart.lists c.args.chart.now) c.args.i) (omega arith) (λ k h. c.loop-k.invariant k (omega arith))
