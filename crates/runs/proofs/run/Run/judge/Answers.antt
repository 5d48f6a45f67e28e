use Rattle.std.proofs.Common.{ℕ, ◌<◌, List, length, Result, sym, refl, ap, ◌∙◌, subst}
use Rattle.copies.specs.declared.indexed.Indexed.{Indexed}
use Rattle.copies.specs.Kept.{kept}
use Rattle.copies.proofs.Kept.{kept_sound}
use Rattle.orders.specs.Deciding.{unfinished}
use Rattle.orders.specs.Driving.{lowest}
use Rattle.rings.specs.Walks.{ring_of}
use Rattle.rules.specs.Places.{place_of, Within}
use Rattle.rules.specs.Held.{some_below}
use Rattle.rules.specs.Drove.{most_steps}
use Rattle.rules.proofs.Ended.{most_steps_is}
use Rattle.rules.proofs.Drove.{below_some, below_none}
use Rattle.runs.specs.declared.parts.Refusal.{Refusal}
use Rattle.runs.specs.declared.parts.Verdict.{Verdict}
use Rattle.runs.specs.Drives.{Written}
use Rattle.runs.specs.Verdicts.{JudgeAnswers}
use Rattle.runs.proofs.Telling.{tells_sound}
use Rattle.runs.proofs.Places.{room}
use Rattle.runs.proofs.Judging.{room_missing, judge_runs, judge_stuck, steps_fit, ring_fits}
use Rattle.runs.proofs.run.Run.judge.Goals as goal

pub returns-then-not-has_room : goal.returns-then-not-has_room
returns-then-not-has_room g c =
    let b = c.args.self.now.board in
    let L = kept b.copy in
    let M = g.M.Medium.carries c.args.self.now.medium in
    let out = c.args.buffer.now in
    record {
      tells = λ h s.
          tells_sound b.copy.fault _ (λ (a : Result Verdict Refusal). JudgeAnswers M L h out a out) _ (sym c.check.ensures ∙ c.in_ok-check.was)
          (record { number = refl; short = room_missing L b.rows.table b.within h s out (sym c.has_room.ensures ∙ c.if-not-has_room.true); same = refl });
      keeps = refl;
    }

pub put-requires : goal.put-requires
put-requires g c =
    let b = c.args.self.now.board in
    let L = kept b.copy in
    let d = c.drive_to_end-steps in
    let end = d.new.self in
    steps_fit L b.rows.table end.rows.table _ c.args.buffer.now (subst (λ (x : Indexed). Within (kept x) end.rows.table) d.ensures.keeps end.within) d.ensures.moves
    (sym c.has_room.ensures ∙ c.if-not-has_room.false) _ (ap length (c.as_slice.ensures.value ∙ d.ensures.steps))

pub put-requires-in-Some : goal.put-requires-in-Some
put-requires-in-Some g c =
    let b = c.args.self.now.board in
    ring_fits (kept b.copy) (place_of b.rows.table) c.args.buffer.now (sym c.has_room.ensures ∙ c.if-not-has_room.false) _ c.members-members.ensures.fits

pub returns-in-None : goal.returns-in-None
returns-in-None g c =
    let b = c.args.self.now.board in
    let L = kept b.copy in
    let M = g.M.Medium.carries c.args.self.now.medium in
    let out = c.args.buffer.now in
    let d = c.drive_to_end-steps in
    let end = d.new.self.rows.table in
    let done = below_none (length L) (lowest (unfinished L (place_of end)) (length L))
    (c.in-None.ensures ∙ ap (λ (x : Indexed). some_below (length (kept x)) (lowest (unfinished (kept x) (place_of end)) (length (kept x)))) d.ensures.keeps) in
    record {
      tells = λ h s.
          tells_sound b.copy.fault _ (λ (a : Result Verdict Refusal). JudgeAnswers M L h out a c.put.new.buffer) _ (sym c.check.ensures ∙ c.in_ok-check.was)
          (judge_runs M L (kept_sound b.copy) b.rows.table end b.within most_steps (room (kept_sound b.copy).few_events most_steps_is) d.ensures.moves
          out c.put.new.buffer (sym c.has_room.ensures ∙ c.if-not-has_room.false) h s c.len.result done (c.len.ensures.value ∙ ap length d.ensures.steps)
          (subst (λ (w : List ℕ). Written w out c.put.new.buffer) (c.as_slice.ensures.value ∙ d.ensures.steps) c.put.ensures));
      keeps = tt;
    }

pub returns-in-Some : goal.returns-in-Some
returns-in-Some g c =
    let b = c.args.self.now.board in
    let L = kept b.copy in
    let M = g.M.Medium.carries c.args.self.now.medium in
    let out = c.args.buffer.now in
    let d = c.drive_to_end-steps in
    let end = d.new.self.rows.table in
    let after = c.put-in-Some.new.buffer in
    let some = below_some (length L) (lowest (unfinished L (place_of end)) (length L)) c.in-Some.field-0
    (c.in-Some.ensures ∙ ap (λ (x : Indexed). some_below (length (kept x)) (lowest (unfinished (kept x) (place_of end)) (length (kept x)))) d.ensures.keeps) in
    let members = c.members-members.ensures.value ∙ c.of-ring.ensures ∙ ap (λ (x : Indexed). ring_of (kept x) (place_of end)) d.ensures.keeps in
    record {
      tells = λ h s.
          tells_sound b.copy.fault _ (λ (a : Result Verdict Refusal). JudgeAnswers M L h out a after) _ (sym c.check.ensures ∙ c.in_ok-check.was)
          (judge_stuck M L (kept_sound b.copy) b.rows.table end b.within most_steps (room (kept_sound b.copy).few_events most_steps_is) d.ensures.moves
          out after (sym c.has_room.ensures ∙ c.if-not-has_room.false) h s _ (subst (λ (x : ℕ). x < length L) (sym some.0) some.1) (ap length members)
          (subst (λ (w : List ℕ). Written w out after) members c.put-in-Some.ensures));
      keeps = tt;
    }
