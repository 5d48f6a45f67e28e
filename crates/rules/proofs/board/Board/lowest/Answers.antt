use Rattle.std.proofs.Common.{length}
use Rattle.copies.proofs.Kept.{kept_sound}
use Rattle.rules.specs.Boards.{lists_of, positions}
use Rattle.rules.specs.Held.{held_now}
use Rattle.rules.proofs.Candidates.{covers_all}
use Rattle.rules.proofs.board.Board.lowest.Goals as goal

pub lowest_among-requires : goal.lowest_among-requires
lowest_among-requires g c =
    let b = c.args.self.now in
    let M = g.M.Medium.carries c.args.medium.now in
    covers_all (held_now M (lists_of b) c.args.held (positions b)) (length (lists_of b)) c.all.result (kept_sound b.copy).few_instances c.all.ensures
