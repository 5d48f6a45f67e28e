use Rattle.std.proofs.Common.{rules, sym, refl, subst}
use Rattle.copies.specs.Kept.{kept}
use Rattle.copies.proofs.Kept.{kept_sound}
use Rattle.runs.specs.declared.calls.Call.{Call}
use Rattle.runs.specs.Made.{MakesCall}
use Rattle.runs.proofs.Making.{step_makes, drive_makes, restart_makes, judge_makes, latest_makes}
use Rattle.runs.proofs.turns.make_call.Goals as goal

pub returns-in-Step : goal.returns-in-Step
returns-in-Step g c =
    let b = c.args.run.now.board in
    let L = kept b.copy in
    let M = g.M.Medium.carries c.args.run.now.medium in
    let out = c.args.buffer.now in
    record {
      keeps = (c.step.ensures.keeps.0, c.step.ensures.keeps.1);
      makes = λ h s.
          subst (λ (call : Call). MakesCall b.copy.fault M L h call out c.map_or_else.result out c.step.new.self.board.rows.table) (sym c.in-Step.is)
          (step_makes M L (kept_sound b.copy) h b.rows.table s out c.step.new.self.board.rows.table b.copy.fault c.in-Step.i c.step.result c.map_or_else.result (c.step.ensures.tells h s) c.step.ensures.moves (search rules));
    }

pub returns-in-Drive : goal.returns-in-Drive
returns-in-Drive g c =
    let b = c.args.run.now.board in
    let L = kept b.copy in
    let M = g.M.Medium.carries c.args.run.now.medium in
    let out = c.args.buffer.now in
    record {
      keeps = (c.drive.ensures.keeps.0, c.drive.ensures.keeps.1);
      makes = λ h s.
          subst (λ (call : Call). MakesCall b.copy.fault M L h call out c.map_or_else-in-Drive.result c.drive.new.buffer c.drive.new.self.board.rows.table) (sym c.in-Drive.is)
          (drive_makes M L (kept_sound b.copy) h b.rows.table s out c.drive.new.self.board.rows.table c.drive.new.buffer b.copy.fault c.in-Drive.n c.drive.result c.map_or_else-in-Drive.result (c.drive.ensures.tells h s) c.drive.ensures.moves c.drive.ensures.unwritten (search rules));
    }

pub returns-in-Restart : goal.returns-in-Restart
returns-in-Restart g c =
    let b = c.args.run.now.board in
    let L = kept b.copy in
    let M = g.M.Medium.carries c.args.run.now.medium in
    let out = c.args.buffer.now in
    record {
      keeps = (c.restart.ensures.keeps.0, c.restart.ensures.keeps.1);
      makes = λ h s.
          subst (λ (call : Call). MakesCall b.copy.fault M L h call out c.map_or_else-in-Restart.result out c.restart.new.self.board.rows.table) (sym c.in-Restart.is)
          (restart_makes M L (kept_sound b.copy) h b.rows.table s out c.restart.new.self.board.rows.table b.copy.fault c.restart.result c.map_or_else-in-Restart.result c.restart.ensures.tells c.restart.ensures.moves (search rules));
    }

pub returns-in-Judge : goal.returns-in-Judge
returns-in-Judge g c =
    let b = c.args.run.now.board in
    let L = kept b.copy in
    let M = g.M.Medium.carries c.args.run.now.medium in
    let out = c.args.buffer.now in
    record {
      keeps = (refl, refl);
      makes = λ h s.
          subst (λ (call : Call). MakesCall b.copy.fault M L h call out c.map_or_else-in-Judge.result c.judge.new.buffer b.rows.table) (sym c.in-Judge.is)
          (judge_makes M L (kept_sound b.copy) h b.rows.table s out c.judge.new.buffer b.copy.fault c.judge.result c.map_or_else-in-Judge.result (c.judge.ensures.tells h s) c.judge.ensures.keeps (search rules));
    }

pub returns-in-Latest : goal.returns-in-Latest
returns-in-Latest g c =
    let b = c.args.run.now.board in
    let L = kept b.copy in
    let M = g.M.Medium.carries c.args.run.now.medium in
    let out = c.args.buffer.now in
    record {
      keeps = (refl, refl);
      makes = λ h s.
          subst (λ (call : Call). MakesCall b.copy.fault M L h call out c.map_or_else-in-Latest.result out b.rows.table) (sym c.in-Latest.is)
          (latest_makes M L (kept_sound b.copy) h b.rows.table s out b.copy.fault c.in-Latest.i c.in-Latest.k c.latest.result c.map_or_else-in-Latest.result (c.latest.ensures h s) (search rules));
    }
