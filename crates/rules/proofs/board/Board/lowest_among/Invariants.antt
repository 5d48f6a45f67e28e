use Rattle.std.proofs.Common.{length}
use Rattle.rules.specs.Held.{held_now}
use Rattle.rules.specs.Instances.{Covers}
use Rattle.rules.specs.Boards.{lists_of, positions}
use Rattle.rules.proofs.board.Board.lowest_among.Given as goal

abbrev pub invariant-loop-j : goal.invariant-loop-j
invariant-loop-j g l = Covers (held_now (g.M.Medium.carries l.fn.medium) (lists_of l.self) l.fn.held (positions l.self)) (length (lists_of l.self)) l.candidates

abbrev pub decreases-loop-j : goal.decreases-loop-j
decreases-loop-j g l = l.candidates.bits
