use Rattle.std.proofs.Common.{arith, sym, ◌∙◌}
use Rattle.std.proofs.lemmas.List.{length-take-le}
use Rattle.piletexts.specs.Lines.{lines_of}
use Rattle.piletexts.proofs.Feeding.{fed_within, fed_found, fed_room, fed_more}
use Rattle.piletexts.proofs.lines.Lines.take_text.Goals as goal

pub slice_bounds-result-end : goal.slice_bounds-result-end
slice_bounds-result-end c =
    let took = c.in-Some.ensures.steps in
    sym (length-take-le c.loop-line.length c.args.self.now.rest.now
    (fed_within c.args.self.now.rest.now c.args.self.now.number c.loop-line.length c.loop-line.self.number (lines_of c.loop-line.self.rest.now) c.loop-line.invariant
    c.in-Some.line.now (lines_of c.next.new.self.rest.now) c.next.new.self.number took.0 took.1))

pub returns-then-same : goal.returns-then-same
returns-then-same c =
    let took = c.in-Some.ensures.steps in
    fed_found c.args.self.now.rest.now c.args.self.now.number c.loop-line.length c.loop-line.self.number (lines_of c.loop-line.self.rest.now) c.loop-line.invariant
    c.in-Some.line.now (lines_of c.next.new.self.rest.now) c.next.new.self.number took.0 took.1 (sym c.same.ensures ∙ c.if-same.true)

pub overflow_add-length-in-Some : goal.overflow_add-length-in-Some
overflow_add-length-in-Some c =
    let took = c.in-Some.ensures.steps in
    let room = fed_room c.args.self.now.rest.now c.args.self.now.number c.loop-line.length c.loop-line.self.number (lines_of c.loop-line.self.rest.now) c.loop-line.invariant
    c.in-Some.line.now (lines_of c.next.new.self.rest.now) c.next.new.self.number took.0 took.1 in
    let counted = c.args.self.now.counted in
    omega arith

pub loop-line-preserved : goal.loop-line-preserved
loop-line-preserved c =
    let took = c.in-Some.ensures.steps in
    fed_more c.args.self.now.rest.now c.args.self.now.number c.loop-line.length c.loop-line.self.number (lines_of c.loop-line.self.rest.now) c.loop-line.invariant
    c.in-Some.line.now (lines_of c.next.new.self.rest.now) c.next.new.self.number took.0 took.1 (sym c.same.ensures ∙ c.if-same.false) _ (omega arith)
