use Rattle.std.proofs.Common.{eqb, length, rules, tests, vec_items}
use Rattle.std.proofs.lemmas.Iterator.Consumers.{YieldsList-at, YieldsList-turn, YieldsList-end}
use Rattle.std.proofs.lemmas.Iterator.Splits.{YieldsList-from_slice_split}
use Rattle.std.proofs.lemmas.List.{length_push}
use Rattle.tabletexts.specs.Table.{fields}
use Rattle.tabletexts.proofs.Turns.{next_piece, lengths_end, lengths_stop, lengths_more}
use Rattle.tabletexts.proofs.reading.read_lengths.Goals as goal

pub returns-in_default : goal.returns-in_default
returns-in_default c =
    let turn = YieldsList-turn (YieldsList-at c.into_iter-field-iterator.ensures.into_iter_gives (YieldsList-from_slice_split _ (λ b. eqb b 32) c.args.line.now c.split-field-items.ensures.rest c.split-field-items.ensures.done c.split-field-items.ensures.closure (λ x b q k. search (rules, tests)))) c.loop-field.yielded _ c.loop-field.yielded_by _ _ c.in-Some.field c.in-Some.is c.next.ensures.steps in
    let k = length c.loop-field.yielded in
    lengths_stop _ (vec_items c.loop-field.lengths) (fields c.args.line.now) k c.loop-field.invariant _ (next_piece (fields c.args.line.now) k c.in-Some.field.now turn) c.in_default.ensures.value

pub loop-field-preserved : goal.loop-field-preserved
loop-field-preserved c =
    let turn = YieldsList-turn (YieldsList-at c.into_iter-field-iterator.ensures.into_iter_gives (YieldsList-from_slice_split _ (λ b. eqb b 32) c.args.line.now c.split-field-items.ensures.rest c.split-field-items.ensures.done c.split-field-items.ensures.closure (λ x b q k. search (rules, tests)))) c.loop-field.yielded _ c.loop-field.yielded_by _ _ c.in-Some.field c.in-Some.is c.next.ensures.steps in
    let k = length c.loop-field.yielded in
    lengths_more _ (vec_items c.loop-field.lengths) (fields c.args.line.now) k c.loop-field.invariant _ (next_piece (fields c.args.line.now) k c.in-Some.field.now turn) _ _ _ c.in-Some-read_number.ensures.value c.in_ok-push.ensures.items (length_push c.loop-field.yielded c.in-Some.field)

pub returns : goal.returns
returns c =
    let end = YieldsList-end (YieldsList-at c.into_iter-field-iterator.ensures.into_iter_gives (YieldsList-from_slice_split _ (λ b. eqb b 32) c.args.line.now c.split-field-items.ensures.rest c.split-field-items.ensures.done c.split-field-items.ensures.closure (λ x b q k. search (rules, tests)))) c.loop-field.yielded _ c.loop-field.yielded_by _ _ c.in-None.is c.next.ensures.steps in
    lengths_end _ (vec_items c.loop-field.lengths) (fields c.args.line.now) (length c.loop-field.yielded) c.loop-field.invariant end.1
