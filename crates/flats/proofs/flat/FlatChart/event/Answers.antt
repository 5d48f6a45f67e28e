use Rattle.std.proofs.Common.{get_or, sym, ap, ◌∙◌, arith}
use Rattle.std.proofs.lemmas.List.{get_or_past}
use Rattle.charts.specs.Events.{no_event}
use Rattle.flats.proofs.flat.FlatChart.event.Goals as goal

pub returns-else-k-events : goal.returns-else-k-events
returns-else-k-events c =
    sym (get_or_past c.events_of-events.result.now c.args.k no_event (omega arith)) ∙ ap (λ es. get_or es c.args.k no_event) c.events_of-events.ensures
