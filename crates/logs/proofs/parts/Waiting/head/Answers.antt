use Rattle.std.proofs.Common.{sym, ap, ◌∙◌}
use Rattle.records.specs.Records.{written}
use Rattle.runs.specs.Runs.{fault_of, lists_of}
use Rattle.logs.proofs.Carrying.{head_begins}
use Rattle.logs.proofs.OneRecord.{not_head}
use Rattle.logs.proofs.Answered.{head_answers, head_refused}
use Rattle.logs.proofs.parts.Waiting.head.Goals as goal

pub returns-in-Ok-Head-clause-answers : goal.returns-in-Ok-Head-clause-answers
returns-in-Ok-Head-clause-answers g c =
    let run = c.args.run.now in
    head_answers (fault_of run) (lists_of run) c.args.self c.args.bytes.now c.in-Ok-Head.head c.take_head.result (sym c.fault.ensures ∙ c.in_default.is)
    (c.in-Ok-Head.ensures ∙ ap written c.in-Ok-Head.field-0-is) c.take_head.ensures

pub returns-in-Err-clause-answers : goal.returns-in-Err-clause-answers
returns-in-Err-clause-answers g c =
    let run = c.args.run.now in
    head_refused (fault_of run) (lists_of run) c.args.self c.args.bytes.now c.in-Err.cause c.refuse-in-Err.result (sym c.fault.ensures ∙ c.in_default.is) c.refuse-in-Err.ensures
    (not_head (lists_of run) c.args.bytes.now c.in-Err.cause c.in-Err.ensures)

pub returns-in-Ok-Head-clause-carries : goal.returns-in-Ok-Head-clause-carries
returns-in-Ok-Head-clause-carries g c s =
    let run = c.args.run.now in
    head_begins (g.M.Medium.carries run.medium) run c.args.self c.args.bytes.now c.take_head.result s (returns-in-Ok-Head-clause-answers g c)
