use Rattle.copies.specs.Kept.{kept}
use Rattle.runs.proofs.Dones.{done_told}
use Rattle.runs.proofs.run.Run.is_done.Goals as goal

pub returns : goal.returns
returns g c h s =
    let b = c.args.self.now.board in
    done_told (kept b.copy) b.rows.table h s c.lowest_unfinished.result c.is_none.result c.lowest_unfinished.ensures c.is_none.ensures
