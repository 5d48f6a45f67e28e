use Rattle.joining.proofs.Laws.{beside_keeps}
use Rattle.joins.proofs.beside.Beside.into_parts.Goals as goal

pub returns-clause-keeps : goal.returns-clause-keeps
returns-clause-keeps g c =
    let a = c.args.self.left in
    let b = c.args.self.right in
    beside_keeps (g.A.Chart.trouble a) (g.B.Chart.trouble b) (g.A.Chart.lists a) (g.B.Chart.lists b) (g.A.Chart.sound a) (g.B.Chart.sound b)
