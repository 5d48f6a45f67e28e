use Rattle.std.proofs.Common.{◌≡◌, length}
use Rattle.copies.specs.Kept.{kept}
use Rattle.logs.proofs.Onward.{So}
use Rattle.logs.proofs.checking.follow.Given as goal

abbrev pub invariant-records : goal.invariant-records
invariant-records g l =
    (l.run.board.copy ≡ l.fn.run.board.copy) × (l.run.medium ≡ l.fn.run.medium) × So (g.M.Medium.carries l.fn.run.medium) (kept l.fn.run.board.copy) l.fn.log l.rest l.run.board.rows.table l.stage

abbrev pub decreases-records : goal.decreases-records
decreases-records g l = length l.rest
