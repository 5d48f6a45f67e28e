use Rattle.verdicts.proofs.Rowed.{rows_next}
use Rattle.verdicts.proofs.members.rows.Goals as goal

pub loop-k-preserved : goal.loop-k-preserved
loop-k-preserved c = rows_next c.args.names.now c.loop-k.rows c.args.ring.now c.loop-k.k c.of.result c.loop-k.invariant c.loop-k-test.true c.requires c.of.ensures
