use Rattle.std.proofs.Common.{sym}
use Rattle.recasts.proofs.Recasting.{undoes, exactly}
use Rattle.recasts.proofs.recast.Recast.inverse.Goals as goal

pub returns-in-None : goal.returns-in-None
returns-in-None g c =
    let t = c.args.self.now in
    let f = g.A.Chart.trouble t.chart in
    let L = g.A.Chart.lists t.chart in
    record {
      undoes = undoes f L t.turn.to c.inverse.result (g.A.Chart.sound t.chart) t.turn.names c.inverse.ensures.places c.inverse.ensures.inverse (sym c.in-None.ensures);
      names = record { long = c.inverse.ensures.places; back = c.inverse.ensures.inverse };
      exact = exactly f L t.turn.to (g.A.Chart.sound t.chart) t.turn.names;
    }

pub returns-in-Some-clause-exact : goal.returns-in-Some-clause-exact
returns-in-Some-clause-exact g c =
    let t = c.args.self.now in exactly (g.A.Chart.trouble t.chart) (g.A.Chart.lists t.chart) t.turn.to (g.A.Chart.sound t.chart) t.turn.names
