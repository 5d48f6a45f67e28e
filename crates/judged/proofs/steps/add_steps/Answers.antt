use Rattle.std.proofs.Common.{◌≡◌, ◌<◌, take, get_or, append-nil, sym, arith, rules}
use Rattle.std.proofs.lemmas.List.{length-take-le}
use Rattle.judged.proofs.Stepping.{lines_at, counted_none, counted_at, pos_few}
use Rattle.judged.proofs.steps.add_steps.Goals as goal

pub loop-at-init : goal.loop-at-init
loop-at-init c = (sym (append-nil c.args.lines.now.items), counted_none)

pub overflow_add-positions : goal.overflow_add-positions
overflow_add-positions c =
    let long = length-take-le c.loop-at.at c.args.order.now (omega arith) in
    let few = pos_few (take c.loop-at.at c.args.order.now) c.from-instance.result in
    let is = c.loop-at.invariant.1.counts c.from-instance.result (omega arith) in
    omega (arith, c.well_formed)

pub loop-at-preserved : goal.loop-at-preserved
loop-at-preserved c =
    let order = c.args.order.now in
    let at = c.loop-at.at in
    let here : c.from-instance.result ≡ get_or order at 0 = search rules in
    let fits : c.from-instance.result < 256 = omega (arith, c.type_inv.order at) in
    let counts = c.loop-at.invariant.1.counts c.from-instance.result fits in (
      lines_at c.args.listing.now order c.args.lines.now.items c.loop-at.lines.items _ at c.from-instance.result _ (omega arith) here counts c.loop-at.invariant.0 c.in_ok-add_event.ensures,
      counted_at order c.loop-at.positions at c.from-instance.result (omega arith) here fits c.loop-at.invariant.1,
    )
