use Rattle.std.proofs.Common.{◌≡◌, ◌-◌, false, is_some, sym, ap, ◌∙◌, arith}
use Rattle.charts.specs.declared.parts.Event.{Event}
use Rattle.charts.proofs.Bounds.{number_small, span_small}
use Rattle.joining.specs.After.{after_trouble}
use Rattle.joins.proofs.Following.{after_begins}
use Rattle.joins.proofs.after.AfterChart.event.Goals as goal

pub returns-then-k-before : goal.returns-then-k-before
returns-then-k-before g c =
    let t = c.args.self.now in
    let f = g.A.Chart.trouble t.first in
    let h = g.B.Chart.trouble t.second in
    let L = g.A.Chart.lists t.first in
    let K = g.B.Chart.lists t.second in
    let whole : is_some (after_trouble f h L K) ≡ false = cc in
    c.event.ensures ∙ sym (after_begins f h L K c.args.i whole c.args.k (omega arith))

pub raised-requires : goal.raised-requires
raised-requires g c =
    let t = c.args.self.now in
    let n = number_small (g.B.Chart.lists t.second) c.args.i (g.B.Chart.trouble t.second) (c.args.k - c.count-before.result) (g.B.Chart.sound t.second) in
    let s = span_small (g.A.Chart.lists t.first) (g.A.Chart.trouble t.first) (g.A.Chart.sound t.first) in
    let e = ap (λ (x : Event). x.number) c.event-2.ensures in
    omega arith
