use Rattle.std.proofs.Common.{sym}
use Rattle.recasts.proofs.Recasting.{recast_sized}
use Rattle.recasts.proofs.recast.RecastChart.summary.Goals as goal

pub returns-then-permutes : goal.returns-then-permutes
returns-then-permutes g c =
    let t = c.args.self.now in
    recast_sized (g.A.Chart.trouble t.chart) (g.A.Chart.lists t.chart) t.turn.to c.in_ok-size.size (g.A.Chart.sound t.chart) t.turn.names
    c.in_ok-size.ensures (sym c.if-permutes.ensures)
