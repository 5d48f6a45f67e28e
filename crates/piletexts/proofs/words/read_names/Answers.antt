use Rattle.std.proofs.Common.{◌∙◌, eqb, length, arith, rules, tests}
use Rattle.std.proofs.lemmas.Iterator.Consumers.{YieldsList-at, YieldsList-from_enumerate, YieldsList-turn, YieldsList-end}
use Rattle.std.proofs.lemmas.Iterator.Splits.{YieldsList-from_slice_split}
use Rattle.std.proofs.lemmas.List.{drop_all, length_push}
use Rattle.std.proofs.lemmas.List.FromFn.{length-enumerate_from}
use Rattle.tabletexts.specs.Pieces.{pieces}
use Rattle.tabletexts.proofs.Turns.{next_numbered}
use Rattle.piletexts.proofs.Naming.{named_none, named_end, named_full, named_stop, named_next}
use Rattle.piletexts.proofs.words.read_names.Goals as goal

pub loop-given-init : goal.loop-given-init
loop-given-init c = named_none _

pub returns-then-given-ge32 : goal.returns-then-given-ge32
returns-then-given-ge32 c =
    let turn = YieldsList-turn (YieldsList-at c.into_iter-given-iterator.ensures.into_iter_gives (YieldsList-from_enumerate (YieldsList-at c.enumerate-given-items.ensures.source (YieldsList-from_slice_split _ (λ b. eqb b 32) c.args.fields.now c.split.ensures.rest c.split.ensures.done c.split.ensures.closure (λ x b q k. search (rules, tests)))) c.enumerate-given-items.ensures.count)) c.loop-given.yielded _ c.loop-given.yielded_by _ _ (c.in-Some.given, c.in-Some.field) c.in-Some.is c.next.ensures.steps in
    let k = length c.loop-given.yielded in
    let next = next_numbered (pieces 32 c.args.fields.now) k c.in-Some.given c.in-Some.field.now turn in
    named_full _ k _ c.in-Some.field.now _ _ c.loop-given.invariant next.1.is (let full = c.loop-given.invariant.full in let same = next.0 in omega arith)

pub returns-in_err-names : goal.returns-in_err-names
returns-in_err-names c =
    let turn = YieldsList-turn (YieldsList-at c.into_iter-given-iterator.ensures.into_iter_gives (YieldsList-from_enumerate (YieldsList-at c.enumerate-given-items.ensures.source (YieldsList-from_slice_split _ (λ b. eqb b 32) c.args.fields.now c.split.ensures.rest c.split.ensures.done c.split.ensures.closure (λ x b q k. search (rules, tests)))) c.enumerate-given-items.ensures.count)) c.loop-given.yielded _ c.loop-given.yielded_by _ _ (c.in-Some.given, c.in-Some.field) c.in-Some.is c.next.ensures.steps in
    let k = length c.loop-given.yielded in
    let next = next_numbered (pieces 32 c.args.fields.now) k c.in-Some.given c.in-Some.field.now turn in
    c.from_residual.ensures ∙ named_stop _ k _ c.in-Some.field.now _ _ c.loop-given.invariant next.1.is c.in_err-names.ensures

pub loop-given-preserved : goal.loop-given-preserved
loop-given-preserved c =
    let turn = YieldsList-turn (YieldsList-at c.into_iter-given-iterator.ensures.into_iter_gives (YieldsList-from_enumerate (YieldsList-at c.enumerate-given-items.ensures.source (YieldsList-from_slice_split _ (λ b. eqb b 32) c.args.fields.now c.split.ensures.rest c.split.ensures.done c.split.ensures.closure (λ x b q k. search (rules, tests)))) c.enumerate-given-items.ensures.count)) c.loop-given.yielded _ c.loop-given.yielded_by _ _ (c.in-Some.given, c.in-Some.field) c.in-Some.is c.next.ensures.steps in
    let k = length c.loop-given.yielded in
    let next = next_numbered (pieces 32 c.args.fields.now) k c.in-Some.given c.in-Some.field.now turn in
    named_next c.loop-given.names _ k _ _ (pieces 32 c.args.fields.now) _ _ c.loop-given.invariant next.0 (length_push c.loop-given.yielded (c.in-Some.given, c.in-Some.field)) next.1.is (let below = c.if-given-ge32.false in let same = next.0 in omega arith) c.in_ok-names.ensures

pub returns : goal.returns
returns c =
    let end = YieldsList-end (YieldsList-at c.into_iter-given-iterator.ensures.into_iter_gives (YieldsList-from_enumerate (YieldsList-at c.enumerate-given-items.ensures.source (YieldsList-from_slice_split _ (λ b. eqb b 32) c.args.fields.now c.split.ensures.rest c.split.ensures.done c.split.ensures.closure (λ x b q k. search (rules, tests)))) c.enumerate-given-items.ensures.count)) c.loop-given.yielded _ c.loop-given.yielded_by _ _ c.in-None.is c.next.ensures.steps in
    let k = length c.loop-given.yielded in
    let all = end.1 ∙ length-enumerate_from 0 (pieces 32 c.args.fields.now) in
    named_end _ k _ _ c.loop-given.invariant (drop_all k (pieces 32 c.args.fields.now) (omega arith))
