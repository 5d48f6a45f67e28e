use Rattle.std.proofs.Common.{vec_items, arith}
use Rattle.charts.specs.Lists.{column}
use Rattle.flats.proofs.Turns.{event_more, event_all}
use Rattle.flats.proofs.copies.push_events.Goals as goal

pub loop-k-preserved : goal.loop-k-preserved
loop-k-preserved g c =
    let es = column (g.C.Chart.lists c.args.chart.now) c.args.i in
    event_more (vec_items c.args.events.now) (vec_items c.loop-k.events) (vec_items c.push.new.self) es c.event.result c.loop-k.k (omega arith) c.loop-k.invariant c.event.ensures c.in_ok-push.ensures.items

pub returns : goal.returns
returns g c =
    let es = column (g.C.Chart.lists c.args.chart.now) c.args.i in
    event_all (vec_items c.args.events.now) (vec_items c.loop-k.events) es c.loop-k.k (omega arith) c.loop-k.invariant
