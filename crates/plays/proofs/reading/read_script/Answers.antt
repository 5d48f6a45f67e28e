use Rattle.std.proofs.Common.{◌+◌, length, Err, ap, ◌∙◌, arith, rules, true-eqb, false-eqb}
use Rattle.piletexts.specs.Lines.{lines_of}
use Rattle.piles.specs.Applied.{standing}
use Rattle.scripts.specs.Statements.{said}
use Rattle.plays.specs.Troubles.{at_line}
use Rattle.plays.specs.Plans.{plan_of}
use Rattle.plays.specs.Followed.{state}
use Rattle.plays.specs.Scripts.{script_of}
use Rattle.plays.proofs.Following.{followed_leaves, line_passed, line_unknown, line_told, line_followed, end_told}
use Rattle.plays.proofs.Once.{writes_it}
use Rattle.plays.proofs.reading.read_script.Goals as goal

pub loop-line-init : goal.loop-line-init
loop-line-init c r x = writes_it c.args.text.now r (search rules)

pub returns-in_default-read_statement : goal.returns-in_default-read_statement
returns-in_default-read_statement c =
    let took = c.in-Some.ensures.steps in
    c.loop-line.invariant (Err (at_line c.number.result))
    (line_unknown (plan_of c.loop-line.draft) c.loop-line.draft.pile c.loop-line.lines.number c.next.new.self.number
    (lines_of c.loop-line.lines.rest.now) (lines_of c.next.new.self.rest.now) c.in-Some.line.now took.0 took.1
    c.number.result c.number.ensures.value (omega (arith, false-eqb _ 0 c.if-not-is_empty.ensures)) c.in_default-read_statement.ensures.value)

pub loop-line-smaller-in-Continue-1 : goal.loop-line-smaller-in-Continue-1
loop-line-smaller-in-Continue-1 c =
    let took = c.in-Some.ensures.steps in
    let fewer = followed_leaves (said c.in-Some-read_statement.statement) (plan_of c.loop-line.draft)
    (standing c.loop-line.draft.pile c.next.new.self.number (lines_of c.next.new.self.rest.now))
    (state (plan_of c.follow.new.self) (standing c.follow.new.self.pile c.follow.new.lines.number (lines_of c.follow.new.lines.rest.now)))
    c.in_ok-follow.ensures in
    omega (arith, ap length took.0)

pub loop-line-preserved-in-Continue-1 : goal.loop-line-preserved-in-Continue-1
loop-line-preserved-in-Continue-1 c r x =
    let took = c.in-Some.ensures.steps in
    c.loop-line.invariant r
    (line_followed (plan_of c.loop-line.draft) c.loop-line.draft.pile c.loop-line.lines.number c.next.new.self.number
    (lines_of c.loop-line.lines.rest.now) (lines_of c.next.new.self.rest.now) c.in-Some.line.now took.0 took.1
    (said c.in-Some-read_statement.statement) c.in-Some-read_statement.ensures.value
    (state (plan_of c.follow.new.self) (standing c.follow.new.self.pile c.follow.new.lines.number (lines_of c.follow.new.lines.rest.now)))
    c.in_ok-follow.ensures r x)

pub returns-in_err-follow : goal.returns-in_err-follow
returns-in_err-follow c =
    let took = c.in-Some.ensures.steps in
    line_told (plan_of c.loop-line.draft) c.loop-line.draft.pile c.loop-line.lines.number c.next.new.self.number
    (lines_of c.loop-line.lines.rest.now) (lines_of c.next.new.self.rest.now) c.in-Some.line.now took.0 took.1
    (said c.in-Some-read_statement.statement) c.in-Some-read_statement.ensures.value
    script_of c.args.text.now
    (state (plan_of c.follow.new.self) (standing c.follow.new.self.pile c.follow.new.lines.number (lines_of c.follow.new.lines.rest.now)))
    c.in_err-follow.field-0.0 c.from_residual.result c.loop-line.invariant c.in_err-follow.ensures (search rules)

pub loop-line-preserved : goal.loop-line-preserved
loop-line-preserved c r x =
    let took = c.in-Some.ensures.steps in
    c.loop-line.invariant r
    (line_passed (plan_of c.loop-line.draft) c.loop-line.draft.pile c.loop-line.lines.number c.next.new.self.number
    (lines_of c.loop-line.lines.rest.now) (lines_of c.next.new.self.rest.now) c.in-Some.line.now took.0 took.1
    (true-eqb _ 0 c.if-not-is_empty.ensures) r x)

pub returns : goal.returns
returns c =
    let done = c.in_default.ensures.steps in
    end_told (plan_of c.loop-line.draft) c.loop-line.draft.pile c.loop-line.lines.number (c.number-2.result + 1) (lines_of c.loop-line.lines.rest.now)
    done.0 (ap (λ n. n + 1) (c.number-2.ensures.value ∙ ap (λ x. x.number) done.1))
    script_of c.args.text.now c.finish.result c.loop-line.invariant c.finish.ensures
