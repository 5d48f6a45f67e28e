use Rattle.joining.proofs.Laws.{after_same}
use Rattle.joins.proofs.after.After+After+A+B+C.regroup.Goals as goal

pub returns-clause-same : goal.returns-clause-same
returns-clause-same g c =
    let x = c.args.self.first.first in
    let y = c.args.self.first.second in
    let z = c.args.self.second in
    after_same (g.A.Chart.trouble x) (g.B.Chart.trouble y) (g.C.Chart.trouble z) (g.A.Chart.lists x) (g.B.Chart.lists y) (g.C.Chart.lists z)
