-- The chart of a chart text: a list of events for each instance, with numbers for the names.
use Rattle.std.specs.Prelude.{ℕ, List, map, Some, None, Option}
use Rattle.charts.specs.declared.parts.Event.{Event}
use Rattle.charts.specs.Events.{event, output, input, action, environment}
use Rattle.grammar.specs.Texts.{EventText, outputs, inputs, acts, ChartText}
use Rattle.texts.specs.Names.{place_in, instance_names, message_names, action_names}

-- the byte of a peer: the place of its instance, or that of the environment
abbrev pub peer_number : List (List ℕ) → Option (List ℕ) → ℕ
peer_number ns None = environment
peer_number ns (Some p) = place_in ns p

-- an event of the chart, with numbers for its names
abbrev pub event_in : ChartText → EventText → Event
event_in c (outputs m p) = event output (peer_number (instance_names c) p) (place_in (message_names c) m)
event_in c (inputs m p) = event input (peer_number (instance_names c) p) (place_in (message_names c) m)
event_in c (acts n) = event action environment (place_in (action_names c) n)

-- the events of each instance
abbrev pub lists_of : ChartText → List (List Event)
lists_of c = map (λ i. map (event_in c) i.events) c.instances
