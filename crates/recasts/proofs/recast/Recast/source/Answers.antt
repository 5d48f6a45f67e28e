use Rattle.std.proofs.Common.{arith}
use Rattle.recasts.proofs.Recasting.{sized_few, turned_source}
use Rattle.recasts.proofs.recast.Recast.source.Goals as goal

pub first-requires : goal.first-requires
first-requires g c =
    let t = c.args.self.now in
    let few = sized_few (g.A.Chart.trouble t.chart) (g.A.Chart.lists t.chart) t.turn.to c.in-Ok.size (g.A.Chart.sound t.chart) t.turn.names c.in-Ok.ensures in
    omega arith

pub returns-in-Ok : goal.returns-in-Ok
returns-in-Ok g c =
    let t = c.args.self.now in
    turned_source (g.A.Chart.trouble t.chart) (g.A.Chart.lists t.chart) t.turn.to c.in-Ok.size c.args.i c.first.result (g.A.Chart.sound t.chart) t.turn.names c.in-Ok.ensures (omega arith) c.first.ensures
