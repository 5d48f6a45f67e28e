use Rattle.std.proofs.Common.{◌-◌, length}
use Rattle.copies.specs.Kept.{kept}
use Rattle.rules.specs.Places.{place_of}
use Rattle.rings.specs.Walks.{waits_on, walk_from}
use Rattle.rings.proofs.Walks.{Turns}
use Rattle.rings.proofs.walk.walk.Given as goal

abbrev pub invariant-loop-x : goal.invariant-loop-x
invariant-loop-x l =
    Turns (waits_on (kept l.board.copy) (place_of l.board.rows.table)) (length (kept l.board.copy))
    (walk_from (kept l.board.copy) (place_of l.board.rows.table) l.from) l.path.items l.x

abbrev pub decreases-loop-x : goal.decreases-loop-x
decreases-loop-x l = length (kept l.board.copy) - length l.path.items
