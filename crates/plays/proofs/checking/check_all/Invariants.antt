use Rattle.buses.specs.Carried.{carried}
use Rattle.piles.specs.Meanings.{flat_meaning}
use Rattle.plays.proofs.Checks.{SoFar}
use Rattle.plays.proofs.checking.check_all.Given as goal

abbrev pub invariant-loop-log : goal.invariant-loop-log
invariant-loop-log l = SoFar (flat_meaning l.chart) (carried l.bus) l.log-index l.initial.logs l.logs
