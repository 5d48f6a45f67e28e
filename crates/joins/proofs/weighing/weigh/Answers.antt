use Rattle.joins.proofs.Weights.{summed_small}
use Rattle.joins.proofs.weighing.weigh.Goals as goal

pub returns-clause-small : goal.returns-clause-small
returns-clause-small g c = (
  summed_small _ _ c.in_ok-first.first (g.A.Chart.sound c.args.a.now) c.in_ok-first.ensures,
  summed_small _ _ c.in_ok-second.second (g.B.Chart.sound c.args.b.now) c.in_ok-second.ensures,
)
