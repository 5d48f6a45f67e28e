use Rattle.std.proofs.Common.{sym, subst}
use Rattle.texts.proofs.Fitting.{first_fault}
use Rattle.verdicts.specs.Charts.{lists_of, names_of}
use Rattle.verdicts.specs.Judging.{JudgesRead}
use Rattle.verdicts.specs.Told.{of_fault}
use Rattle.verdicts.proofs.Readable.{judges_held}
use Rattle.verdicts.proofs.Telling.{judgement_told}
use Rattle.verdicts.proofs.judging.judge_text.Goals as goal

pub returns-in-Ok-clause-judges : goal.returns-in-Ok-clause-judges
returns-in-Ok-clause-judges c =
    let text = c.args.text.now in
    let reads = c.in-Ok.ensures in
    subst (λ r. JudgesRead r (lists_of text) (names_of text) c.judge.result) (sym reads.0.1) (judges_held text c.in-Ok.chart c.judge.result reads.1 c.judge.ensures)

pub returns-in-Ok-clause-tells : goal.returns-in-Ok-clause-tells
returns-in-Ok-clause-tells c =
    let text = c.args.text.now in
    let reads = c.in-Ok.ensures in
    judgement_told text reads.0.0 reads.0.1 c.judge.result (judges_held text c.in-Ok.chart c.judge.result reads.1 c.judge.ensures)

pub returns-in-Err-clause-tells : goal.returns-in-Err-clause-tells
returns-in-Err-clause-tells c = of_fault c.in-Err.fault (first_fault c.args.text.now c.in-Err.fault c.in-Err.ensures) c.refused.ensures
