use Rattle.joining.proofs.Laws.{after_keeps}
use Rattle.joins.proofs.after.After.into_parts.Goals as goal

pub returns-clause-keeps : goal.returns-clause-keeps
returns-clause-keeps g c =
    let a = c.args.self.first in
    let b = c.args.self.second in
    after_keeps (g.A.Chart.trouble a) (g.B.Chart.trouble b) (g.A.Chart.lists a) (g.B.Chart.lists b) (g.A.Chart.sound a) (g.B.Chart.sound b)
