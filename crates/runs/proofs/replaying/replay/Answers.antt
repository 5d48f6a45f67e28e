use Rattle.std.proofs.Common.{List, [], get_or, Option, refl, ap, ◌∙◌, subst, subst₂, arith}
use Rattle.charts.specs.declared.parts.Event.{Event}
use Rattle.charts.specs.declared.faults.Fault.{Fault}
use Rattle.copies.specs.declared.indexed.Indexed.{Indexed}
use Rattle.copies.specs.Kept.{kept}
use Rattle.copies.proofs.Kept.{kept_sound}
use Rattle.runs.specs.declared.calls.Turn.{Turn}
use Rattle.runs.specs.Made.{Makes}
use Rattle.runs.specs.Replays.{Replayed}
use Rattle.runs.proofs.Prefixes.{progress_none, progress_more, progress_all}
use Rattle.runs.proofs.replaying.replay.Goals as goal

pub loop-turn-init : goal.loop-turn-init
loop-turn-init g c =
    let r = c.new-run.result in (
      refl,
      refl,
      progress_none (g.M.Medium.carries r.medium) (kept r.board.copy) (kept_sound r.board.copy) r.board.copy.fault c.args.turns.now r.board.rows.table c.new-run.ensures.stands,
    )

pub loop-turn-preserved : goal.loop-turn-preserved
loop-turn-preserved g c =
    let r = c.new-run.result in
    let l = c.loop-turn in
    let k = c.take_turn in
    let x = get_or l.turns l.turn-index c.turn-item.result in (
      k.ensures.keeps.0 ∙ l.invariant.0,
      k.ensures.keeps.1 ∙ l.invariant.1,
      progress_more (g.M.Medium.carries r.medium) (kept r.board.copy) (kept_sound r.board.copy) r.board.copy.fault l.turn-index c.args.turns.now l.turns l.run.board.rows.table k.new.run.board.rows.table
          x k.new.turn l.invariant.2 (omega arith) l.auto.turns (ap (λ (d : Turn). get_or l.turns l.turn-index d) c.turn-item.is)
          (λ h s.
          subst₂ (λ (y : Indexed) (m : g.row.M.Denot). Makes y.fault (g.M.Medium.carries m) (kept y) h x k.new.turn k.new.run.board.rows.table) l.invariant.0 l.invariant.1 (k.ensures.makes h s)),
    )

pub returns : goal.returns
returns g c =
    let r = c.new-run.result in
    let l = c.loop-turn in
    let n = c.new-run.ensures in
    let all = progress_all (g.M.Medium.carries r.medium) (kept r.board.copy) (kept_sound r.board.copy) r.board.copy.fault l.turn-index c.args.turns.now l.turns l.run.board.rows.table
    l.invariant.2 (omega arith) (omega arith) in
    record {
      promise = (
        all.0,
        subst (λ (t : Option Fault). Replayed t (g.M.Medium.carries c.args.medium) (g.C.Chart.lists c.args.chart.now) [] c.args.turns.now l.turns all.0) n.fault
            (subst₂ (λ (m : g.row.M.Denot) (L : List (List Event)). Replayed r.board.copy.fault (g.M.Medium.carries m) L [] c.args.turns.now l.turns all.0) n.medium n.lists all.1),
      );
      back = l.invariant.1 ∙ n.medium;
    }
