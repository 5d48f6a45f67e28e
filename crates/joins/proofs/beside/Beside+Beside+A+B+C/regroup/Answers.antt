use Rattle.joining.proofs.Laws.{beside_same}
use Rattle.joins.proofs.beside.Beside+Beside+A+B+C.regroup.Goals as goal

pub returns-clause-same : goal.returns-clause-same
returns-clause-same g c =
    let x = c.args.self.left.left in
    let y = c.args.self.left.right in
    let z = c.args.self.right in
    beside_same (g.A.Chart.trouble x) (g.B.Chart.trouble y) (g.C.Chart.trouble z) (g.A.Chart.lists x) (g.B.Chart.lists y) (g.C.Chart.lists z) (g.B.Chart.sound y) (g.C.Chart.sound z)
