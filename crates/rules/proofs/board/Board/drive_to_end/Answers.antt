use Rattle.std.proofs.Common.{length, replicate, refl}
use Rattle.rules.specs.Held.{held_now}
use Rattle.rules.specs.Boards.{lists_of}
use Rattle.rules.proofs.Ended.{steps_within, steps_kept, steps_moved}
use Rattle.rules.proofs.board.Board.drive_to_end.Goals as goal

pub invariant_of-result : goal.invariant_of-result
invariant_of-result g c =
    let b = c.args.self.now in
    let L = lists_of b in
    let test = held_now (g.M.Medium.carries c.args.medium.now) L c.args.held in
    let d = c.drive-count in
    record { within = steps_within test (length L) b.rows.table d.new.self.rows.table (replicate 4096 0) d.new.out refl d.auto.out d.ensures.wrote d.result d.ensures.made }

pub returns : goal.returns
returns g c =
    let b = c.args.self.now in
    let L = lists_of b in
    let test = held_now (g.M.Medium.carries c.args.medium.now) L c.args.held in
    let d = c.drive-count in
    record {
      keeps = d.ensures.keeps;
      steps = steps_kept test (length L) b.rows.table d.new.self.rows.table (replicate 4096 0) d.new.out refl d.auto.out d.ensures.wrote d.result d.ensures.made;
      moves = steps_moved test (length L) b.rows.table d.new.self.rows.table (replicate 4096 0) d.new.out refl d.auto.out d.ensures.wrote d.result d.ensures.made;
    }
