use Rattle.std.proofs.Common.{List, sym, ◌∙◌, subst, subst₂}
use Rattle.charts.specs.declared.parts.Event.{Event}
use Rattle.logs.specs.Logs.{LogAnswered}
use Rattle.logs.proofs.Onward.{spoiled_answers, sound_answers}
use Rattle.logs.proofs.Promised.{answers_as_annex_b}
use Rattle.logs.proofs.checking.check_log.Goals as goal
use Rattle.logs.proofs.checking.check_log.Goals.{in-Some, in-None}

pub returns-clause-answers : goal.returns-clause-answers
returns-clause-answers g c =
    let run = c.new-run.result in
    let n = c.new-run.ensures in
    let t = g.C.Chart.trouble c.args.chart.now in
    let M = g.M.Medium.carries c.args.medium in
    let L = g.C.Chart.lists c.args.chart.now in
    let log = c.args.log.now in
    elim c.match-fault.branch [
      | in-Some w ↦ spoiled_answers t M L log w.in-Some.fault c.match-fault.answer (sym n.fault ∙ sym c.fault.ensures ∙ w.in-Some.is) w.answer-is
      | in-None w ↦
          sound_answers t M L log c.match-fault.answer (sym n.fault ∙ sym c.fault.ensures ∙ w.in-None.is)
          (subst (LogAnswered M L log) (sym w.answer-is)
          (subst₂ (λ (m : g.row.M.Denot) (K : List (List Event)). LogAnswered (g.M.Medium.carries m) K log w.follow-answer.result) n.medium n.lists w.follow-answer.ensures.answers))
    ]

pub returns-clause-annex : goal.returns-clause-annex
returns-clause-annex g c sound is =
    let chart = c.args.chart.now in
    answers_as_annex_b (g.C.Chart.trouble chart) (g.M.Medium.carries c.args.medium) (g.C.Chart.lists chart) c.args.log.now c.match-fault.answer (g.C.Chart.sound chart) (returns-clause-answers g c) sound is
