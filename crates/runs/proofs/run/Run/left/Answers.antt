use Rattle.copies.specs.Kept.{kept}
use Rattle.rules.specs.Places.{place_of}
use Rattle.runs.proofs.Judging.{made_within, left_is}
use Rattle.runs.proofs.run.Run.left.Goals as goal

pub overflow_sub-result : goal.overflow_sub-result
overflow_sub-result g c =
    let b = c.args.self.now.board in
    made_within (kept b.copy) (place_of b.rows.table) b.within c.made.result c.events.result c.made.ensures c.events.ensures

pub returns : goal.returns
returns g c =
    let b = c.args.self.now.board in
    left_is (kept b.copy) (place_of b.rows.table) b.within c.made.result c.events.result c.made.ensures c.events.ensures
