-- The span of a chart: one more than the greatest message number, 0 without messages.
use Rattle.std.specs.Prelude.{ℕ, suc, max, cond, List, [], ◌∷◌}
use Rattle.charts.specs.declared.parts.Event.{Event}
use Rattle.charts.specs.Events.{is_message}

-- one more than an event's message number, 0 for an action
abbrev pub above : Event → ℕ
above e = cond (is_message e) (suc e.number) 0

-- the span of one list of events
abbrev pub span_of : List Event → ℕ
span_of [] = 0
span_of (e ∷ es) = max (above e) (span_of es)

-- the span of a chart's lists
abbrev pub span : List (List Event) → ℕ
span [] = 0
span (es ∷ L) = max (span_of es) (span L)
