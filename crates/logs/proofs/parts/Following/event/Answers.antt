use Rattle.std.proofs.Common.{Err, sym, ap, ◌∙◌}
use Rattle.copies.proofs.Kept.{kept_sound}
use Rattle.records.specs.Records.{written}
use Rattle.runs.specs.Runs.{fault_of, lists_of, StandsAfter}
use Rattle.logs.proofs.Carrying.{event_annex, entry_carries}
use Rattle.logs.proofs.OneRecord.{not_entry}
use Rattle.logs.proofs.Answered.{event_answers, event_refused}
use Rattle.logs.proofs.parts.Following.event.Goals as goal

pub returns-in-Ok-Entry-clause-answers : goal.returns-in-Ok-Entry-clause-answers
returns-in-Ok-Entry-clause-answers g c h s =
    let run = c.args.run.now in
    event_answers (fault_of run) (g.M.Medium.carries run.medium) (lists_of run) h c.args.self c.args.bytes.now c.in-Ok-Entry.entry c.take_entry.result (StandsAfter c.take_entry.new.run)
    (sym c.fault.ensures ∙ c.in_default.is) (c.in-Ok-Entry.ensures ∙ ap written c.in-Ok-Entry.field-0-is) (c.take_entry.ensures.takes h s)

pub returns-in-Err-clause-answers : goal.returns-in-Err-clause-answers
returns-in-Err-clause-answers g c h s =
    let run = c.args.run.now in
    event_refused (fault_of run) (g.M.Medium.carries run.medium) (lists_of run) h c.args.self c.args.bytes.now c.in-Err.cause c.refuse-in-Err.result (StandsAfter run)
    (sym c.fault.ensures ∙ c.in_default.is) c.refuse-in-Err.ensures (not_entry (g.M.Medium.carries run.medium) (lists_of run) h c.args.bytes.now c.in-Err.cause c.in-Err.ensures)

pub returns-in-Ok-Entry-clause-carries : goal.returns-in-Ok-Entry-clause-carries
returns-in-Ok-Entry-clause-carries g c xs has =
    let run = c.args.run.now in
    let t = c.take_entry in
    entry_carries (g.M.Medium.carries run.medium) (g.M.Medium.carries t.new.run.medium) run t.new.run xs c.args.self c.in-Ok-Entry.entry c.args.bytes.now t.result has (ap (λ (m : g.row.M.Denot). g.M.Medium.carries m) t.ensures.keeps.1) t.ensures.keeps.0
    (c.in-Ok-Entry.ensures ∙ ap written c.in-Ok-Entry.field-0-is) (t.ensures.takes has.history has.stands) t.ensures.refused

pub returns-in-Ok-Entry-clause-annex : goal.returns-in-Ok-Entry-clause-annex
returns-in-Ok-Entry-clause-annex g c xs x has e is b =
    let run = c.args.run.now in
    event_annex (lists_of run) (kept_sound run.board.copy) (g.M.Medium.carries run.medium) (fault_of run) has.history c.args.self xs x c.args.bytes.now c.take_entry.result (StandsAfter c.take_entry.new.run) has.order has.named
    (returns-in-Ok-Entry-clause-answers g c has.history has.stands) e is b

pub returns-in-Err-clause-annex : goal.returns-in-Err-clause-annex
returns-in-Err-clause-annex g c xs x has e is b =
    let run = c.args.run.now in
    event_annex (lists_of run) (kept_sound run.board.copy) (g.M.Medium.carries run.medium) (fault_of run) has.history c.args.self xs x c.args.bytes.now (Err c.refuse-in-Err.result) (StandsAfter run) has.order has.named
    (returns-in-Err-clause-answers g c has.history has.stands) e is b
