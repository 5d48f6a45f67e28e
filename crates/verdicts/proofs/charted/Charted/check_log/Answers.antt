use Rattle.std.proofs.Common.{take, refl, ◌∙◌}
use Rattle.verdicts.proofs.Judged.{same_fault, same_lists}
use Rattle.verdicts.proofs.Followed.{no_spoiled, checked_log}
use Rattle.verdicts.proofs.charted.Charted.check_log.Goals as goal

pub of-requires : goal.of-requires
of-requires c =
    let s = c.args.self.now in
    let t = c.table.ensures in
    let sound = same_fault (take s.width s.lengths) _ (take s.count s.events) _ t.lengths t.events ∙ s.sound in
    no_spoiled _ _ c.args.log.now _ sound c.check_log-answer.ensures.answers

pub returns : goal.returns
returns c =
    let s = c.args.self.now in
    let ns = take s.width s.lengths in
    let es = take s.count s.events in
    let t = c.table.ensures in
    let a = c.check_log-answer.ensures in
    let sound = same_fault ns _ es _ t.lengths t.events ∙ s.sound in
    (_, checked_log _ _ c.args.log.now _ sound a.answers (a.annex sound refl) _ (same_lists ns _ es _ t.lengths t.events) _ c.of.ensures)
