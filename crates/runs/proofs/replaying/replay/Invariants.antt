use Rattle.std.proofs.Common.{◌≡◌}
use Rattle.copies.specs.Kept.{kept}
use Rattle.copies.proofs.Kept.{kept_sound}
use Rattle.runs.proofs.Prefixes.{Progress}
use Rattle.runs.proofs.replaying.replay.Given as goal

abbrev pub invariant-loop-turn : goal.invariant-loop-turn
invariant-loop-turn g l =
    (l.run.board.copy ≡ l.initial.run.board.copy) × (l.run.medium ≡ l.initial.run.medium)
    × Progress (g.M.Medium.carries l.initial.run.medium) (kept l.initial.run.board.copy) (kept_sound l.initial.run.board.copy) l.initial.run.board.copy.fault l.turn-index l.initial.turns l.turns l.run.board.rows.table
