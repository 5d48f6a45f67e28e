use Rattle.std.proofs.Common.{List, length, take, Ok, Err, rules, sym, ap, ◌∙◌, subst, arith}
use Rattle.std.proofs.lemmas.List.{length-take}
use Rattle.words.specs.Sentences.{sentences}
use Rattle.items.specs.Items.{Item, Items}
use Rattle.items.specs.Parsing.{items_left}
use Rattle.items.specs.Surveys.{items_in}
use Rattle.items.specs.Tallies.{Holds, Takes}
use Rattle.items.proofs.Bounds.{text_few}
use Rattle.items.proofs.Counts.{counting_none, counting_more, counting_end, counting_fault, counting_repeated, counts_by, is_the_end, shrinks}
use Rattle.items.proofs.surveying.count_items.Goals as goal

pub loop-item-init : goal.loop-item-init
loop-item-init c = counting_none (items_left c.args.parser) c.new-tally.result c.new-tally.ensures

pub returns-in_err-item : goal.returns-in_err-item
returns-in_err-item c =
    counts_by (items_left c.args.parser) c.in_err-item.field-0.0 c.from_residual.result (search rules)
    (counting_fault (items_left c.args.parser) (items_left c.loop-item.left) c.loop-item.tally c.loop-item.invariant c.in_err-item.field-0.0 c.in_err-item.ensures.reads.0)

pub returns-then-is_end : goal.returns-then-is_end
returns-then-is_end c =
    counting_end (items_left c.args.parser) (items_left c.loop-item.left) c.loop-item.tally c.loop-item.invariant
    (is_the_end (items_left c.loop-item.left) (items_left c.next.new.self) c.in_ok-item.item c.in_ok-item.ensures.reads (sym c.is_end.ensures ∙ c.if-is_end.true))

pub take-requires-clause-holds : goal.take-requires-clause-holds
take-requires-clause-holds c =
    subst (λ (is : List Item). Holds c.loop-item.tally (take c.loop-item.tally.read is)) (sym c.requires.titled) c.loop-item.invariant.holds

pub take-requires-clause-fits : goal.take-requires-clause-fits
take-requires-clause-fits c =
    let few = text_few c.args.text.now in
    let same = ap (λ (x : Items). length x.items) c.requires.begun in
    let titled = ap length c.requires.titled in
    let taken = length-take c.loop-item.tally.read (items_in (sentences c.args.text.now)) in
    omega (arith, c.well_formed)

pub loop-item-smaller : goal.loop-item-smaller
loop-item-smaller c =
    let s = shrinks (items_left c.loop-item.left) (items_left c.next.new.self) c.in_ok-item.item c.in_ok-item.ensures.reads (sym c.is_end.ensures ∙ c.if-is_end.false) in
    omega arith

pub loop-item-preserved : goal.loop-item-preserved
loop-item-preserved c =
    counting_more (items_left c.args.parser) (items_left c.loop-item.left) c.loop-item.tally c.loop-item.invariant c.in_ok-item.item (items_left c.next.new.self) c.take.new.self c.in_ok-item.ensures.reads
    (sym c.is_end.ensures ∙ c.if-is_end.false)
    (subst (λ (is : List Item). Takes (take c.loop-item.tally.read is) c.in_ok-item.item (Ok tt) c.take.new.self) c.requires.titled c.in_ok-take.ensures)

pub returns-in_err-take : goal.returns-in_err-take
returns-in_err-take c =
    counts_by (items_left c.args.parser) c.in_err-take.field-0.0 c.from_residual-in_err-take.result (search rules)
    (counting_repeated (items_left c.args.parser) (items_left c.loop-item.left) c.loop-item.tally c.loop-item.invariant c.in_ok-item.item (items_left c.next.new.self) c.take.new.self c.in_err-take.field-0.0
    c.in_ok-item.ensures.reads
    (subst (λ (is : List Item). Takes (take c.loop-item.tally.read is) c.in_ok-item.item (Err c.in_err-take.field-0.0) c.take.new.self) c.requires.titled c.in_err-take.ensures))
