-- The chart that a title and items give, without their places.
use Rattle.std.specs.Prelude.{ℕ, List, map, Option, option_map}
use Rattle.charts.specs.declared.kinds.Kind.{Kind}
use Rattle.charts.specs.declared.kinds.Kind.TheVariants.{Output, Input, Action}
use Rattle.words.specs.Sentences.{Placed}
use Rattle.sentences.specs.Events.{EventWords}
use Rattle.items.specs.Items.{Item}
use Rattle.items.specs.Instances.{InstanceWords, instances_in}
use Rattle.grammar.specs.Texts.{EventText, outputs, inputs, acts, InstanceText, ChartText}

-- an event by its kind, its name and its peer
abbrev pub event_by_kind : Kind → List ℕ → Option (List ℕ) → EventText
event_by_kind Output m p = outputs m p
event_by_kind Input m p = inputs m p
event_by_kind Action m p = acts m

-- an event that was read
abbrev pub event_by : EventWords → EventText
event_by e = event_by_kind e.kind e.name.bytes (option_map (λ w. w.bytes) e.peer)

-- an instance that was read
abbrev pub instance_by : InstanceWords → InstanceText
instance_by i = record { name = i.name.bytes; events = map event_by i.events }

-- the chart of a title and items
abbrev pub chart_by : Placed → List Item → ChartText
chart_by t is = record { title = t.bytes; instances = map instance_by (instances_in is) }
