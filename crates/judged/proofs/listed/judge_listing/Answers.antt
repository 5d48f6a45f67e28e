use Rattle.std.proofs.Common.{ap, ◌∙◌}
use Rattle.checks.specs.Checked.{checked}
use Rattle.tables.specs.TableLists.{table_lists}
use Rattle.tables.specs.declared.table.Table.{Table}
use Rattle.judged.proofs.Telling.{judges, judge_answers}
use Rattle.judged.proofs.listed.judge_listing.Goals as goal

pub unreachable-requires : goal.unreachable-requires
unreachable-requires c =
    let t = c.args.listing.now.table in
    judge_answers t.lengths.now t.events.now c.new.result (c.new.ensures.lists ∙ ap (λ (u : Table). table_lists u.lengths.now u.events.now) c.chart.ensures)
    (c.new.ensures.fault ∙ ap (λ (u : Table). checked u.lengths.now u.events.now) c.chart.ensures) c.requires.faultless c.new.ensures.stands c.args.order.now c.judge.new.buffer
    c.in_default.field-0 c.requires.room c.in_default.ensures.tells

pub returns : goal.returns
returns c =
    let t = c.args.listing.now.table in
    judges t.lengths.now t.events.now c.new.result (c.new.ensures.lists ∙ ap (λ (u : Table). table_lists u.lengths.now u.events.now) c.chart.ensures)
    (c.new.ensures.fault ∙ ap (λ (u : Table). checked u.lengths.now u.events.now) c.chart.ensures) c.requires.faultless c.new.ensures.stands c.args.order.now c.judge.new.buffer
    c.in-Ok.verdict c.in-Ok.ensures.tells
