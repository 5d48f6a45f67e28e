use Rattle.std.proofs.Common.{get_or, ap, arith}
use Rattle.buses.specs.Carried.{carried}
use Rattle.piles.specs.Meanings.{flat_meaning}
use Rattle.plays.specs.declared.parts.Log.{Log}
use Rattle.plays.proofs.Checks.{checked_none, checked_more, checked_all}
use Rattle.plays.proofs.checking.check_all.Goals as goal

pub loop-log-init : goal.loop-log-init
loop-log-init c = checked_none (flat_meaning c.args.chart.now) (carried c.args.bus) c.args.logs.now

pub loop-log-preserved : goal.loop-log-preserved
loop-log-preserved c =
    let l = c.loop-log in
    checked_more (flat_meaning c.args.chart.now) (carried c.args.bus) l.log-index c.args.logs.now l.logs (get_or l.logs l.log-index c.log-item.result) c.check_one.new.log
    l.invariant (omega arith) l.auto.logs (ap (λ (d : Log). get_or l.logs l.log-index d) c.log-item.is) c.check_one.ensures

pub returns : goal.returns
returns c =
    let l = c.loop-log in
    checked_all (flat_meaning c.args.chart.now) (carried c.args.bus) l.log-index c.args.logs.now l.logs l.invariant (omega arith) (omega arith)
