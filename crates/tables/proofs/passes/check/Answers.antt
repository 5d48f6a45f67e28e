use Rattle.std.proofs.Common.{Option, sym, ◌∙◌, subst}
use Rattle.std.proofs.lemmas.Result.{err_from_is_err_and}
use Rattle.charts.specs.declared.faults.Fault.{Fault}
use Rattle.tables.specs.Findings.{Finds}
use Rattle.tables.proofs.Checking.{kept, by_forms, by_repeats, by_matches}
use Rattle.tables.proofs.passes.check.Goals as goal

pub returns-in_err-check_forms : goal.returns-in_err-check_forms
returns-in_err-check_forms c =
    let t = c.in_ok-layout.layout in
    let p = err_from_is_err_and c.from_residual-in_err-check_forms.result c.from_residual-in_err-check_forms.ensures.1 in
    let k = kept c.args.lengths.now c.args.events.now c.new.result c.map_err.result t _ _ c.new.ensures c.map_err.ensures.cases c.map_err.ensures.variant c.in_ok-layout.was in
    rw (p.1, p.2) (k ∙ by_forms t _ c.in_err-check_forms.ensures)

pub returns-in_err-places : goal.returns-in_err-places
returns-in_err-places c =
    let t = c.in_ok-layout.layout in
    let p = err_from_is_err_and c.from_residual-in_err-places.result c.from_residual-in_err-places.ensures.1 in
    let k = kept c.args.lengths.now c.args.events.now c.new.result c.map_err.result t _ _ c.new.ensures c.map_err.ensures.cases c.map_err.ensures.variant c.in_ok-layout.was in
    rw (p.1, p.2) (k ∙ by_repeats t c.in_ok-check_forms.ensures _ c.in_err-places.ensures.repeats)

pub returns : goal.returns
returns c =
    let t = c.in_ok-layout.layout in
    let k = kept c.args.lengths.now c.args.events.now c.new.result c.map_err.result t _ _ c.new.ensures c.map_err.ensures.cases c.map_err.ensures.variant c.in_ok-layout.was in
    subst (λ (o : Option Fault). Finds o c.check_matches.result) (sym k)
    (by_matches t c.in_ok-check_forms.ensures c.check_matches.result c.in_ok-places.ensures.repeats c.check_matches.ensures)
