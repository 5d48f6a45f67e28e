use Rattle.std.proofs.Common.{◌-◌, ap, ◌∙◌, arith}
use Rattle.charts.specs.declared.parts.Event.{Event}
use Rattle.charts.proofs.Bounds.{number_small, peer_small, span_small, width_small}
use Rattle.joins.proofs.beside.BesideChart.event.Goals as goal

pub shifted-requires : goal.shifted-requires
shifted-requires g c =
    let t = c.args.self.now in
    let L = g.A.Chart.lists t.left in
    let K = g.B.Chart.lists t.right in
    let h = g.B.Chart.trouble t.right in
    let i = c.args.i - c.width-width.result in
    let n = number_small K i h c.args.k (g.B.Chart.sound t.right) in
    let s = span_small L (g.A.Chart.trouble t.left) (g.A.Chart.sound t.left) in
    let w = width_small L (g.A.Chart.trouble t.left) (g.A.Chart.sound t.left) in
    let e = ap (λ (x : Event). x.number) c.event-2.ensures in
    let q = ap (λ (x : Event). x.peer) c.event-2.ensures in
    record {
      number = omega arith;
      peer = λ not. let b = peer_small K i c.args.k h (g.B.Chart.sound t.right) (λ y. not (q ∙ y)) in omega arith;
    }
