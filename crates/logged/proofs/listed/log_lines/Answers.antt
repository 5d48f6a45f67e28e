use Rattle.std.proofs.Common.{ap, ◌∙◌}
use Rattle.checks.specs.Checked.{checked}
use Rattle.tables.specs.TableLists.{table_lists}
use Rattle.tables.specs.declared.table.Table.{Table}
use Rattle.judged.specs.Shown.{chart_in}
use Rattle.judged.proofs.Telling.{sound_table}
use Rattle.logged.proofs.Showing.{answered, shows_log}
use Rattle.logged.proofs.listed.log_lines.Goals as goal

pub returns : goal.returns
returns c =
    let l = c.args.listing.now in
    let log = c.args.log.now in
    let said = c.check_log-said.result.0 in
    let a =
    answered _ _ (chart_in l) log said (ap (λ (u : Table). checked u.lengths.now u.events.now) c.chart.ensures ∙ c.requires)
    (ap (λ (u : Table). table_lists u.lengths.now u.events.now) c.chart.ensures) c.check_log-said.ensures.answers in
    let t = c.in_ok-steps.ensures (chart_in l) (sound_table l.table.lengths.now l.table.events.now c.requires) a in
    shows_log l log said c.in_ok-steps.steps.items c.as_slice.result.now c.new-lines.result.items c.add_steps.new.lines.items c.add_answer.new.lines.items a t c.as_slice.ensures.value
    c.new-lines.ensures.items c.in_ok-add_steps.ensures c.in_ok-add_answer.ensures
