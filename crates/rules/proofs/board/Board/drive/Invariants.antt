use Rattle.std.proofs.Common.{◌≡◌, length}
use Rattle.copies.specs.Kept.{kept}
use Rattle.rules.specs.Boards.{positions}
use Rattle.rules.specs.Held.{held_now}
use Rattle.rules.specs.Instances.{Covers}
use Rattle.rules.proofs.Drove.{Turns}
use Rattle.rules.proofs.board.Board.drive.Given as goal

abbrev pub invariant-loop-made : goal.invariant-loop-made
invariant-loop-made g l =
    (l.self.copy ≡ l.initial.self.copy)
    × Turns (held_now (g.M.Medium.carries l.medium) (kept l.initial.self.copy) l.held) (length (kept l.initial.self.copy)) l.made l.initial.self.rows.table l.self.rows.table l.initial.out l.out
    × Covers (held_now (g.M.Medium.carries l.medium) (kept l.self.copy) l.held (positions l.self)) (length (kept l.self.copy)) l.candidates
