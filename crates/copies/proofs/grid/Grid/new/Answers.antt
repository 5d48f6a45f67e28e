use Rattle.std.proofs.Common.{◌≡◌, ℕ, ◌+◌, ◌-◌, refl, subst, arith}
use Rattle.copies.proofs.Begun.{Begun, judged_sound, begun_none, begun_more, begun_faultless, begun_lists}
use Rattle.copies.proofs.grid.Grid.new.Goals as goal

pub loop-i-init : goal.loop-i-init
loop-i-init g c =
    let x = c.args.chart.now in
    begun_none _ _ (g.C.Chart.lists x) (judged_sound (g.C.Chart.trouble x) (g.C.Chart.lists x) (g.C.Chart.sound x)) refl refl

pub loop-i-preserved : goal.loop-i-preserved
loop-i-preserved g c =
    let n = c.loop-i.events in
    let m = c.count-count.result in
    let d : n + m - n ≡ m = omega arith in
    rw d (begun_more c.loop-i.columns c.loop-i.slots c.loop-i.i n (g.C.Chart.lists c.args.chart.now) (omega arith) c.loop-i.invariant m c.count-count.ensures c.copy_column.new.slots c.copy_column.ensures)

pub invariant_of-result : goal.invariant_of-result
invariant_of-result g c =
    let x = c.args.chart.now in
    let L = g.C.Chart.lists x in
    let n = c.width-width.result in
    let end : c.loop-i.i ≡ n = omega arith in
    let all = subst (λ (j : ℕ). Begun c.loop-i.columns c.loop-i.slots j c.loop-i.events L) end c.loop-i.invariant in
    let few = all.sound.few_instances in
    record {
      wide = all.wide;
      long = all.long;
      narrow = omega arith;
      placed = all.placed;
      total = all.total;
      sound = begun_faultless c.loop-i.columns c.loop-i.slots n c.loop-i.events L c.width-width.ensures all;
    }

pub returns : goal.returns
returns g c =
    let L = g.C.Chart.lists c.args.chart.now in
    let n = c.width-width.result in
    let end : c.loop-i.i ≡ n = omega arith in
    let all = subst (λ (j : ℕ). Begun c.loop-i.columns c.loop-i.slots j c.loop-i.events L) end c.loop-i.invariant in
    begun_lists c.loop-i.columns c.loop-i.slots n c.loop-i.events L c.width-width.ensures all
