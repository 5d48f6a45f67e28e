use Rattle.std.proofs.Common.{sym, refl, ◌∙◌}
use Rattle.std.proofs.lemmas.Bool.{cond-true, lt-ltb}
use Rattle.copies.specs.Kept.{kept}
use Rattle.copies.proofs.Kept.{kept_sound}
use Rattle.orders.specs.Deciding.{unfinished}
use Rattle.orders.specs.Driving.{moved}
use Rattle.rules.specs.Places.{place_of}
use Rattle.rules.proofs.Allowing.{slot_there}
use Rattle.runs.specs.Steps.{StepAnswers}
use Rattle.runs.proofs.Telling.{tells_sound}
use Rattle.runs.proofs.Stepping.{step_runs, step_waits}
use Rattle.runs.proofs.run.Run.step.Goals as goal

pub returns-then-may : goal.returns-then-may
returns-then-may g c =
    let b = c.args.self.now.board in
    let L = kept b.copy in
    let M = g.M.Medium.carries c.args.self.now.medium in
    let i = c.args.i in
    let next = sym c.next.ensures ∙ c.in-Some.is in
    let left = (slot_there L i (place_of b.rows.table i) c.in-Some.slot next).0 in
    record {
      tells = λ h s.
          tells_sound b.copy.fault _ (StepAnswers M L h i) _ (sym c.check.ensures ∙ c.in_ok-check.was)
          (step_runs M L (kept_sound b.copy) b.rows.table h s i c.in-Some.slot next (sym c.may.ensures ∙ c.if-may.true));
      keeps = (c.advance.ensures.keeps, refl);
      moves = λ j. c.advance.ensures.moves j ∙ cond-true (unfinished L (place_of b.rows.table) i) (moved (place_of b.rows.table) i j) (place_of b.rows.table j) (lt-ltb (place_of b.rows.table i) _ left);
      refused = tt;
    }

pub returns-else-may : goal.returns-else-may
returns-else-may g c =
    let b = c.args.self.now.board in
    let L = kept b.copy in
    let M = g.M.Medium.carries c.args.self.now.medium in
    let i = c.args.i in
    let next = sym c.next.ensures ∙ c.in-Some.is in
    record {
      tells = λ h s.
          tells_sound b.copy.fault _ (StepAnswers M L h i) _ (sym c.check.ensures ∙ c.in_ok-check.was)
          (step_waits M L (kept_sound b.copy) b.rows.table h s i c.in-Some.slot next c.waits_for.result (sym c.may.ensures ∙ c.if-may.false) c.waits_for.ensures);
      keeps = (refl, refl);
      moves = λ j. refl;
      refused = refl;
    }
