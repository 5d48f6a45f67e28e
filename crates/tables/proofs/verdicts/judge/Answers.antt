use Rattle.std.proofs.Common.{ℕ, length, Ok, Result, ap, ◌∙◌}
use Rattle.std.proofs.lemmas.Result.{err_from_is_err_and}
use Rattle.checks.proofs.Exact.{checked_sound}
use Rattle.tables.proofs.Answering.{sized, not_sound, span_fold}
use Rattle.charts.specs.declared.parts.Summary.{Summary}
use Rattle.charts.specs.declared.faults.Fault.{Fault}
use Rattle.tables.proofs.verdicts.judge.Goals as goal

pub returns-in_err-check-clause-sound : goal.returns-in_err-check-clause-sound
returns-in_err-check-clause-sound c =
    let p = err_from_is_err_and c.from_residual.result c.from_residual.ensures.1 in
    rw p.1 (not_sound c.args.lengths.now c.args.events.now _ c.in_err-check.ensures)

pub returns-clause-judged : goal.returns-clause-judged
returns-clause-judged c =
    let ns = c.args.lengths.now in
    let es = c.args.events.now in
    let measured : ℕ → Result Summary Fault = λ n. Ok (record { width = length ns; events = length es; span = n }) in
    ap measured (c.span_of.ensures ∙ span_fold es) ∙ sized ns es c.in_ok-check.ensures

pub returns-clause-sound : goal.returns-clause-sound
returns-clause-sound c = checked_sound c.args.lengths.now c.args.events.now c.in_ok-check.ensures
