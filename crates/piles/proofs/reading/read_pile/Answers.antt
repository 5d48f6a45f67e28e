use Rattle.std.proofs.Common.{◌+◌, length, Ok, Err, ap, ◌∙◌, arith, rules, true-eqb, false-eqb}
use Rattle.piletexts.specs.Lines.{lines_of}
use Rattle.piles.specs.Applied.{standing}
use Rattle.piles.proofs.Following.{applied_leaves, line_passed, line_unknown, line_told, line_followed, ends_empty, ends_full}
use Rattle.piles.proofs.reading.read_pile.Goals as goal

pub returns-in_default-read_command : goal.returns-in_default-read_command
returns-in_default-read_command c =
    let took = c.in-Some.ensures.steps in
    c.loop-line.invariant (Err c.number.result)
    (line_unknown c.loop-line.pile c.loop-line.lines.number c.next.new.self.number
    (lines_of c.loop-line.lines.rest.now) (lines_of c.next.new.self.rest.now) c.in-Some.line.now took.0 took.1
    c.number.result c.number.ensures.value (omega (arith, false-eqb _ 0 c.if-not-is_empty.ensures)) c.in_default-read_command.ensures)

pub loop-line-smaller-in-Continue-1 : goal.loop-line-smaller-in-Continue-1
loop-line-smaller-in-Continue-1 c =
    let took = c.in-Some.ensures.steps in
    let fewer = applied_leaves c.in-Some-read_command.command
    (standing c.loop-line.pile c.next.new.self.number (lines_of c.next.new.self.rest.now))
    (standing c.apply.new.self c.apply.new.lines.number (lines_of c.apply.new.lines.rest.now))
    c.in_ok-apply.ensures.applied in
    omega (arith, ap length took.0)

pub loop-line-preserved-in-Continue-1 : goal.loop-line-preserved-in-Continue-1
loop-line-preserved-in-Continue-1 c o p =
    let took = c.in-Some.ensures.steps in
    c.loop-line.invariant o
    (line_followed c.loop-line.pile c.loop-line.lines.number c.next.new.self.number
    (lines_of c.loop-line.lines.rest.now) (lines_of c.next.new.self.rest.now) c.in-Some.line.now took.0 took.1
    c.in-Some-read_command.command c.in-Some-read_command.ensures
    (standing c.apply.new.self c.apply.new.lines.number (lines_of c.apply.new.lines.rest.now))
    c.in_ok-apply.ensures.applied o p)

pub returns-in_err-apply : goal.returns-in_err-apply
returns-in_err-apply c =
    let took = c.in-Some.ensures.steps in
    line_told c.loop-line.pile c.loop-line.lines.number c.next.new.self.number
    (lines_of c.loop-line.lines.rest.now) (lines_of c.next.new.self.rest.now) c.in-Some.line.now took.0 took.1
    c.in-Some-read_command.command c.in-Some-read_command.ensures
    _
    (standing c.apply.new.self c.apply.new.lines.number (lines_of c.apply.new.lines.rest.now))
    _ c.in_err-apply.field-0.0 c.from_residual.result c.loop-line.invariant c.in_err-apply.ensures.applied (search rules)

pub loop-line-preserved : goal.loop-line-preserved
loop-line-preserved c o p =
    let took = c.in-Some.ensures.steps in
    c.loop-line.invariant o
    (line_passed c.loop-line.pile c.loop-line.lines.number c.next.new.self.number
    (lines_of c.loop-line.lines.rest.now) (lines_of c.next.new.self.rest.now) c.in-Some.line.now took.0 took.1
    (true-eqb _ 0 c.if-not-is_empty.ensures) o p)

pub returns-then-is_none : goal.returns-then-is_none
returns-then-is_none c =
    let done = c.in_default.ensures.steps in
    c.loop-line.invariant (Err (c.number-then-is_none.result + 1))
    (ends_empty c.loop-line.pile c.top.result c.loop-line.lines.number c.number-then-is_none.result
    (lines_of c.loop-line.lines.rest.now) done.0 (c.number-then-is_none.ensures.value ∙ ap (λ x. x.number) done.1) c.top.ensures c.if-is_none.ensures)

pub returns : goal.returns
returns c =
    c.loop-line.invariant (Ok c.loop-line.pile)
    (ends_full c.loop-line.pile c.top.result c.loop-line.lines.number (lines_of c.loop-line.lines.rest.now)
    c.in_default.ensures.steps.0 c.top.ensures c.if-is_none.ensures)
