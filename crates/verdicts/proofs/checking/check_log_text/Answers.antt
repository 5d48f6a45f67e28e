use Rattle.std.proofs.Common.{subst}
use Rattle.texts.proofs.Fitting.{first_fault}
use Rattle.verdicts.specs.Checking.{Checked}
use Rattle.verdicts.specs.Told.{by_fault}
use Rattle.verdicts.proofs.Readable.{lists_held}
use Rattle.verdicts.proofs.Telling.{log_told}
use Rattle.verdicts.proofs.checking.check_log_text.Goals as goal

pub returns-in-Ok-clause-tells : goal.returns-in-Ok-clause-tells
returns-in-Ok-clause-tells c =
    let text = c.args.text.now in
    let log = c.args.log.now in
    let reads = c.in-Ok.ensures in
    let checks = c.check_log.ensures in
    log_told text reads.0.0 reads.0.1 log checks.0 c.check_log.result (subst (λ L. Checked L log checks.0 c.check_log.result) (lists_held text c.in-Ok.chart reads.1) checks.1)

pub returns-in-Err-clause-tells : goal.returns-in-Err-clause-tells
returns-in-Err-clause-tells c = by_fault c.in-Err.fault (first_fault c.args.text.now c.in-Err.fault c.in-Err.ensures) c.text_refused.ensures
