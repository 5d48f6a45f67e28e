use Rattle.std.proofs.Common.{◌+◌, arith, subst, sym}
use Rattle.logged.proofs.Led.{Led, led_more, led_enough, led_over}
use Rattle.logged.proofs.leading.leading.Goals as goal

pub returns-in_default : goal.returns-in_default
returns-in_default c = led_over c.args.most c.args.bytes.now c.loop.counter c.loop.instances.items c.loop.rest.now c.in_default.ensures c.loop.invariant

pub loop-preserved : goal.loop-preserved
loop-preserved c =
    let l = c.loop in
    subst (λ met. Led c.args.most c.args.bytes.now (l.counter + 1) met c.in-Some.behind.now) (sym c.in_ok-push.ensures.items)
    (led_more c.args.most c.args.bytes.now l.counter l.instances.items l.rest.now c.loop-test.true c.in-Some.entry c.in-Some.behind.now c.in-Some.ensures l.invariant)

pub returns : goal.returns
returns c =
    led_enough c.args.most c.args.bytes.now c.loop.counter c.loop.instances.items c.loop.rest.now (let m = c.loop.auto.counter-end in let f = c.loop-test.false in omega arith) c.loop.invariant
