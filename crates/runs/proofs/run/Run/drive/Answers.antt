use Rattle.std.proofs.Common.{ℕ, ◌-◌, ◌≤◌, ◌++◌, length, take, drop, Result, sym, refl, ap, ◌∙◌, arith}
use Rattle.copies.specs.declared.indexed.Indexed.{Indexed}
use Rattle.copies.specs.Kept.{kept}
use Rattle.copies.proofs.Kept.{kept_sound}
use Rattle.orders.specs.Driving.{moved_by}
use Rattle.rules.specs.Places.{place_of}
use Rattle.runs.specs.declared.parts.Refusal.{Refusal}
use Rattle.runs.specs.declared.parts.Drove.{Drove}
use Rattle.runs.specs.Endings.{ending_of}
use Rattle.runs.specs.Drives.{DriveAnswers}
use Rattle.runs.proofs.Telling.{tells_sound}
use Rattle.runs.proofs.Driving.{steps_are, drive_moves, drive_answers}
use Rattle.runs.proofs.run.Run.drive.Goals as goal

pub returns : goal.returns
returns g c =
    let b = c.args.self.now.board in
    let L = kept b.copy in
    let M = g.M.Medium.carries c.args.self.now.medium in
    let n = c.args.n in
    let out = c.args.buffer.now in
    let room : n ≤ length out = omega arith in
    let d = c.drive-made in
    let all = d.ensures.made ∙ ap length (steps_are M L b.rows.table d.new.self.rows.table n out d.new.out room d.ensures.wrote) in
    record {
      tells = λ h s.
          tells_sound b.copy.fault _ (λ (a : Result Drove Refusal). DriveAnswers M L h n out a _) _ (sym c.check.ensures ∙ c.in_ok-check.was)
          (drive_answers M L b.rows.table d.new.self.rows.table n out d.new.out room d.ensures.wrote (kept_sound b.copy) h s d.result c.ending-ending.result all (c.ending-ending.ensures ∙ ap (λ (x : Indexed). ending_of (kept x) (place_of d.new.self.rows.table) d.result n) d.ensures.keeps));
      keeps = (d.ensures.keeps, refl);
      moves = λ j. drive_moves M L b.rows.table d.new.self.rows.table n out d.new.out room d.ensures.wrote j ∙ ap (λ (k : ℕ). moved_by (place_of b.rows.table) (take k (d.new.out ++ drop (n - 0) (drop 0 out))) j) (sym all);
      refused = tt;
      unwritten = tt;
    }
