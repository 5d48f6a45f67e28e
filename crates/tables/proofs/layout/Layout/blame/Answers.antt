use Rattle.std.proofs.Common.{arith}
use Rattle.checks.proofs.Cuts.{instance_bound, index_bound}
use Rattle.tables.proofs.layout.Layout.blame.Goals as goal

pub overflow_cast-place : goal.overflow_cast-place
overflow_cast-place c = omega (arith, instance_bound c.args.self.now.lengths.now c.args.at)

pub overflow_cast-place-2 : goal.overflow_cast-place-2
overflow_cast-place-2 c = omega (arith, index_bound c.args.self.now.lengths.now c.args.at)
