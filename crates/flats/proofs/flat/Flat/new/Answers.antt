use Rattle.std.proofs.Common.{vec_items, arith}
use Rattle.flats.proofs.Copied.{copies, copied_verdict}
use Rattle.flats.proofs.Turns.{firsts_none, firsts_more}
use Rattle.flats.proofs.flat.Flat.new.Goals as goal

pub loop-i-init : goal.loop-i-init
loop-i-init g c = firsts_none _ _ _ c.new-columns.ensures.items c.new-events.ensures.items

pub loop-i-preserved : goal.loop-i-preserved
loop-i-preserved g c =
    let L = g.C.Chart.lists c.args.chart.now in
    let n = c.loop-i.events.ok.0 in
    let e = c.new.ensures in
    firsts_more _ _ (vec_items c.loop-i.events) _ c.new.result c.loop-i.i L (omega arith) c.loop-i.invariant (cc) c.in_ok-push.ensures.items c.in_ok-push_events.ensures

pub invariant_of-result : goal.invariant_of-result
invariant_of-result g c =
    let x = c.args.chart.now in
    let same = copies c.summary-verdict.result (vec_items c.loop-i.columns) (vec_items c.loop-i.events) c.loop-i.i (g.C.Chart.trouble x) (g.C.Chart.lists x) (g.C.Chart.sound x) c.summary-verdict.ensures (omega arith) c.loop-i.invariant in
    record { placed = c.loop-i.invariant.placed; judged = copied_verdict _ _ _ _ _ same c.summary-verdict.ensures }

pub returns : goal.returns
returns g c =
    let x = c.args.chart.now in
    let same = copies c.summary-verdict.result (vec_items c.loop-i.columns) (vec_items c.loop-i.events) c.loop-i.i (g.C.Chart.trouble x) (g.C.Chart.lists x) (g.C.Chart.sound x) c.summary-verdict.ensures (omega arith) c.loop-i.invariant in
    (same.trouble, same.lists)
