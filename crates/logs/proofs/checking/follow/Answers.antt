use Rattle.std.proofs.Common.{length, Ok, Err, ap, ◌∙◌, subst, subst₂}
use Rattle.copies.specs.declared.indexed.Indexed.{Indexed}
use Rattle.copies.specs.Kept.{kept}
use Rattle.copies.proofs.Kept.{kept_sound}
use Rattle.records.specs.declared.parts.Record.TheVariants.{Head, Entry, End}
use Rattle.records.specs.declared.parts.Record.{Record}
use Rattle.records.specs.Records.{written}
use Rattle.records.specs.Reading.{BeginsWith}
use Rattle.runs.specs.Stands.{Stands}
use Rattle.logs.specs.Heads.{TakesHead}
use Rattle.logs.specs.Events.{TakesEntry}
use Rattle.logs.specs.Ends.{TakesEnd}
use Rattle.logs.proofs.Onward.{behind_record, flawed, second_head, only_read, exit_is, head_refused, head_taken, entry_refused, entry_taken, end_refused, end_taken}
use Rattle.logs.proofs.checking.follow.Goals as goal

pub returns-in-Err-clause-answers : goal.returns-in-Err-clause-answers
returns-in-Err-clause-answers g c =
    let run = c.args.run.now in
    let l = c.records in
    flawed (g.M.Medium.carries run.medium) (kept run.board.copy) c.args.log.now l.rest.now l.run.board.rows.table l.stage l.invariant.2 c.in-Err.flaw c.in-Err.ensures.reads c.from.result c.from.ensures
    c.refuse.result c.refuse.ensures

pub returns-in_err-take_head-in-Waiting-Head-clause-answers :
    goal.returns-in_err-take_head-in-Waiting-Head-clause-answers
returns-in_err-take_head-in-Waiting-Head-clause-answers g c =
    let run = c.args.run.now in
    let l = c.records in
    let at = c.in-Waiting-Head in
    let f = c.in_err-take_head-in-Waiting-Head.field-0.0 in
    head_refused (g.M.Medium.carries run.medium) (kept run.board.copy) c.args.log.now l.rest.now l.run.board.rows.table at.follower l.stage at.is-0 l.invariant.2 at.head
    (subst (BeginsWith l.rest.now) at.is-1 c.in-Ok.ensures.reads.0) f
    (subst (λ (y : Indexed). TakesHead (kept y) at.follower at.head (Err f)) l.invariant.0 c.in_err-take_head-in-Waiting-Head.ensures)
    c.from_residual.result (exit_is c.from_residual.result f c.from_residual.ensures)

pub returns-in_err-take_entry-in-Following-Entry-clause-answers :
    goal.returns-in_err-take_entry-in-Following-Entry-clause-answers
returns-in_err-take_entry-in-Following-Entry-clause-answers g c =
    let run = c.args.run.now in
    let l = c.records in
    let at = c.in-Following-Entry in
    let f = c.in_err-take_entry-in-Following-Entry.field-0.0 in
    let exit = c.from_residual-in_err-take_entry-in-Following-Entry in
    entry_refused (g.M.Medium.carries run.medium) (kept run.board.copy) c.args.log.now l.rest.now l.run.board.rows.table at.follower l.stage at.is-0 l.invariant.2 at.entry
    (subst (BeginsWith l.rest.now) at.is-1 c.in-Ok.ensures.reads.0) f
    (λ h s.
    subst₂ (λ (y : Indexed) (m : g.row.M.Denot). TakesEntry (g.M.Medium.carries m) (kept y) h at.follower at.entry (Err f) (Stands l.run.board.rows.table)) l.invariant.0 l.invariant.1
    (c.in_err-take_entry-in-Following-Entry.ensures.takes h s))
    exit.result (exit_is exit.result f exit.ensures)

pub returns-in_err-closed-in-Following-End-clause-answers :
    goal.returns-in_err-closed-in-Following-End-clause-answers
returns-in_err-closed-in-Following-End-clause-answers g c =
    let run = c.args.run.now in
    let l = c.records in
    let at = c.in-Following-End in
    let f = c.in_err-closed-in-Following-End.field-0.0 in
    let exit = c.from_residual-in_err-closed-in-Following-End in
    end_refused (g.M.Medium.carries run.medium) (kept run.board.copy) c.args.log.now l.rest.now l.run.board.rows.table at.follower l.stage at.is-0 l.invariant.2 at.end
    (subst (BeginsWith l.rest.now) at.is-1 c.in-Ok.ensures.reads.0) f
    (λ h s. subst (λ (y : Indexed). TakesEnd (kept y) h at.follower at.end (Err f)) l.invariant.0 (c.in_err-closed-in-Following-End.ensures h s))
    exit.result (exit_is exit.result f exit.ensures)

pub returns-in-Following-End-clause-answers : goal.returns-in-Following-End-clause-answers
returns-in-Following-End-clause-answers g c =
    let run = c.args.run.now in
    let l = c.records in
    let at = c.in-Following-End in
    let ok = c.in_ok-closed-in-Following-End in
    let b = subst (BeginsWith l.rest.now) at.is-1 c.in-Ok.ensures.reads.0 in
    end_taken (g.M.Medium.carries run.medium) (kept run.board.copy) c.args.log.now l.rest.now l.run.board.rows.table (kept_sound run.board.copy) at.follower l.stage at.is-0 l.invariant.2 at.end
    b ok.closed ok.verdict
    (λ h s. subst (λ (y : Indexed). TakesEnd (kept y) h at.follower at.end (Ok (ok.closed, ok.verdict))) l.invariant.0 (ok.ensures h s))
    _ (behind_record l.rest.now (End at.end) c.in-Ok.read.1 b (c.in-Ok.ensures.reads.1 ∙ ap (λ (r : Record). length (written r)) at.is-1)) c.finish.result c.finish.ensures

pub returns-in-Following-Head-clause-answers : goal.returns-in-Following-Head-clause-answers
returns-in-Following-Head-clause-answers g c =
    let run = c.args.run.now in
    let l = c.records in
    let at = c.in-Following-Head in
    let read = c.in-Ok.read in
    second_head (g.M.Medium.carries run.medium) (kept run.board.copy) c.args.log.now l.rest.now l.run.board.rows.table at.follower l.stage at.is-0 l.invariant.2 read.0 c.in-Ok.ensures.reads.0
    (λ y b. only_read read y _ (c.in-Ok.ensures.again y b.0 b.1)) at.field-0-1 at.is-1 c.refuse-in-Following-Head.result c.refuse-in-Following-Head.ensures
    c.from-in-Following-Head.result c.from-in-Following-Head.ensures

pub records-preserved-in_ok-take_head-in-Waiting-Head :
    goal.records-preserved-in_ok-take_head-in-Waiting-Head
records-preserved-in_ok-take_head-in-Waiting-Head g c =
    let run = c.args.run.now in
    let l = c.records in
    let at = c.in-Waiting-Head in
    let ok = c.in_ok-take_head-in-Waiting-Head in
    let b = subst (BeginsWith l.rest.now) at.is-1 c.in-Ok.ensures.reads.0 in (
      l.invariant.0,
      l.invariant.1,
      head_taken (g.M.Medium.carries run.medium) (kept run.board.copy) c.args.log.now l.rest.now l.run.board.rows.table at.follower l.stage at.is-0 l.invariant.2 at.head b ok.field-0
          (subst (λ (y : Indexed). TakesHead (kept y) at.follower at.head (Ok ok.field-0)) l.invariant.0 ok.ensures)
          _ (behind_record l.rest.now (Head at.head) c.in-Ok.read.1 b (c.in-Ok.ensures.reads.1 ∙ ap (λ (r : Record). length (written r)) at.is-1)),
    )

pub records-preserved : goal.records-preserved
records-preserved g c =
    let run = c.args.run.now in
    let l = c.records in
    let at = c.in-Following-Entry in
    let ok = c.in_ok-take_entry-in-Following-Entry in
    let after = c.take_entry.new.run in
    let b = subst (BeginsWith l.rest.now) at.is-1 c.in-Ok.ensures.reads.0 in (
      ok.ensures.keeps.0 ∙ l.invariant.0,
      ok.ensures.keeps.1 ∙ l.invariant.1,
      entry_taken (g.M.Medium.carries run.medium) (kept run.board.copy) c.args.log.now l.rest.now l.run.board.rows.table (kept_sound run.board.copy) at.follower l.stage at.is-0 l.invariant.2 at.entry
          b ok.field-0 after.board.rows.table
          (λ h s.
          subst₂ (λ (y : Indexed) (m : g.row.M.Denot). TakesEntry (g.M.Medium.carries m) (kept y) h at.follower at.entry (Ok ok.field-0) (Stands after.board.rows.table)) l.invariant.0 l.invariant.1
          (ok.ensures.takes h s))
          _ (behind_record l.rest.now (Entry at.entry) c.in-Ok.read.1 b (c.in-Ok.ensures.reads.1 ∙ ap (λ (r : Record). length (written r)) at.is-1)),
    )
