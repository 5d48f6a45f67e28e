use Rattle.std.proofs.Common.{Err, sym, ap, ◌∙◌}
use Rattle.records.specs.Records.{written}
use Rattle.runs.specs.Runs.{fault_of, lists_of}
use Rattle.logs.proofs.Carrying.{end_closes}
use Rattle.logs.proofs.OneRecord.{not_end}
use Rattle.logs.proofs.Answered.{end_answers, end_refused}
use Rattle.logs.proofs.parts.Following.end.Goals as goal

pub returns-in-Ok-End-clause-answers : goal.returns-in-Ok-End-clause-answers
returns-in-Ok-End-clause-answers g c h s =
    let run = c.args.run.now in
    end_answers (fault_of run) (lists_of run) h c.args.self c.args.bytes.now c.in-Ok-End.end c.take_end.result (sym c.fault.ensures ∙ c.in_default.is)
    (c.in-Ok-End.ensures ∙ ap written c.in-Ok-End.field-0-is) (c.take_end.ensures h s)

pub returns-in-Err-clause-answers : goal.returns-in-Err-clause-answers
returns-in-Err-clause-answers g c h s =
    let run = c.args.run.now in
    end_refused (fault_of run) (lists_of run) h c.args.self c.args.bytes.now c.in-Err.cause c.refuse-in-Err.result (sym c.fault.ensures ∙ c.in_default.is) c.refuse-in-Err.ensures
    (not_end c.args.self.entries c.args.bytes.now c.in-Err.cause c.in-Err.ensures)

pub returns-in-Ok-End-clause-annex : goal.returns-in-Ok-End-clause-annex
returns-in-Ok-End-clause-annex g c xs has e is =
    let run = c.args.run.now in
    end_closes (g.M.Medium.carries run.medium) run c.args.self xs c.args.bytes.now c.take_end.result (fault_of run) has (returns-in-Ok-End-clause-answers g c has.history has.stands) e is

pub returns-in-Err-clause-annex : goal.returns-in-Err-clause-annex
returns-in-Err-clause-annex g c xs has e is =
    let run = c.args.run.now in
    end_closes (g.M.Medium.carries run.medium) run c.args.self xs c.args.bytes.now (Err c.refuse-in-Err.result) (fault_of run) has (returns-in-Err-clause-answers g c has.history has.stands) e is
