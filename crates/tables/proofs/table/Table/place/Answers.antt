use Rattle.std.proofs.Common.{get_or, ap, ◌∙◌, ℕ, ◌+◌, arith}
use Rattle.std.proofs.lemmas.List.{length-take}
use Rattle.charts.specs.Events.{no_event}
use Rattle.tables.proofs.Answering.{inside}
use Rattle.tables.proofs.table.Table.place.Goals as goal

pub slice_bounds-total-end : goal.slice_bounds-total-end
slice_bounds-total-end c =
    let at = inside c.args.self.now.lengths.now c.args.self.now.events.now c.args.i c.args.k (omega arith) in
    omega (arith, length-take c.args.i c.args.self.now.lengths.now)

pub overflow_add-result : goal.overflow_add-result
overflow_add-result c =
    let at = inside c.args.self.now.lengths.now c.args.self.now.events.now c.args.i c.args.k (omega arith) in
    omega arith

pub returns : goal.returns
returns c =
    let at = inside c.args.self.now.lengths.now c.args.self.now.events.now c.args.i c.args.k (omega arith) in
    (omega arith, ap (λ (x : ℕ). get_or c.args.self.now.events.now (x + c.args.k) no_event) c.total.ensures ∙ at.is)
