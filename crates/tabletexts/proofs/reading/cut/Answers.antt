use Rattle.std.proofs.Common.{◌≡◌, ◌+◌, eqb, Some, None, rules, tests}
use Rattle.std.specs.List.{position}
use Rattle.std.proofs.lemmas.Iterator.{YieldsList-from_slice}
use Rattle.std.proofs.lemmas.Iterator.Search.{position_from_yields_List}
use Rattle.std.proofs.lemmas.List.{take_rest}
use Rattle.tabletexts.proofs.Cuts.{cut_none, cut_some}
use Rattle.tabletexts.proofs.reading.cut.Goals as goal

pub returns-in-Some-clause-value : goal.returns-in-Some-clause-value
returns-in-Some-clause-value c =
    let first : Some c.in-Some.i ≡ position (λ b. eqb b c.args.separator) c.args.text.now = position_from_yields_List (λ b. eqb b c.args.separator) _ _ (Some c.in-Some.i) c.in-Some.ensures.ran (YieldsList-from_slice c.args.text.now (cc)) (λ x b q k. search (rules, tests)) in
    rw (take_rest c.args.text.now (c.in-Some.i + 1)) (cut_some c.args.separator c.args.text.now c.in-Some.i first)

pub returns-in-None-clause-value : goal.returns-in-None-clause-value
returns-in-None-clause-value c =
    cut_none c.args.separator c.args.text.now (position_from_yields_List (λ b. eqb b c.args.separator) _ _ None c.in-None.ensures.ran (YieldsList-from_slice c.args.text.now (cc)) (λ x b q k. search (rules, tests)))
