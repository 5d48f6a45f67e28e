use Rattle.std.proofs.Common.{false, sym, ap, ◌∙◌, arith}
use Rattle.words.specs.Sentences.{sentences}
use Rattle.words.specs.Reading.{others}
use Rattle.items.specs.Items.{Items, items_from}
use Rattle.items.specs.Surveys.{items_in, items_if}
use Rattle.items.specs.Parsing.{items_left}
use Rattle.items.proofs.Passing.{passed_none, passed_found, passed_more, passed_all, passed_enough}
use Rattle.items.proofs.repeats.named_among.Goals as goal

pub loop-init : goal.loop-init
loop-init c =
    passed_none (items_in (sentences c.args.text.now)) (items_left c.in-Ok.parser).items c.args.name.now
    (ap (λ t. items_if t (items_from false (others (sentences c.args.text.now)))) c.in-Ok.ensures.begins.0 ∙ sym (ap (λ (is : Items). is.items) c.in-Ok.ensures.begins.1))

pub returns-in_default-next : goal.returns-in_default-next
returns-in_default-next c =
    let t = c.loop-test.true in
    passed_all (items_in (sentences c.args.text.now)) (items_left c.loop.parser).items c.loop.counter c.args.count c.args.name.now c.loop.invariant
    (ap (λ (is : Items). is.items) c.in_default-next.ensures.reads.0) (omega arith)

pub returns-then-is_named : goal.returns-then-is_named
returns-then-is_named c =
    passed_found (items_in (sentences c.args.text.now)) c.loop.counter (items_left c.loop.parser) (items_left c.next.new.self) c.args.name.now c.loop.invariant
    c.in-Ok-next.item c.in-Ok-next.ensures.reads (sym c.is_named.ensures ∙ c.if-is_named.true) c.args.count c.loop-test.true

pub loop-preserved : goal.loop-preserved
loop-preserved c =
    passed_more (items_in (sentences c.args.text.now)) c.loop.counter (items_left c.loop.parser) (items_left c.next.new.self) c.args.name.now c.loop.invariant
    c.in-Ok-next.item c.in-Ok-next.ensures.reads (sym c.is_named.ensures ∙ c.if-is_named.false)

pub returns : goal.returns
returns c =
    passed_enough (items_in (sentences c.args.text.now)) (items_left c.loop.parser).items c.loop.counter c.args.count c.args.name.now c.loop.invariant
    (let m = c.loop.auto.counter-end in let f = c.loop-test.false in omega arith)
