-- The events of a chart: a list for each instance. Instances, and the events of each, count from 0.
use Rattle.std.specs.Prelude.{◌≡◌, ℕ, ◌<◌, List, [], length, sum_by, slice_index_or}
use Rattle.charts.specs.declared.parts.Event.{Event}
use Rattle.charts.specs.Events.{no_event}

-- the events of instance i, none where there is no such instance
abbrev pub column : List (List Event) → ℕ → List Event
column L i = slice_index_or L i []

-- the number of events on instance i
abbrev pub count_of : List (List Event) → ℕ → ℕ
count_of L i = length (column L i)

-- event k of instance i, zeros outside the lists
abbrev pub event_of : List (List Event) → ℕ → ℕ → Event
event_of L i k = slice_index_or (column L i) k no_event

-- the number of events on all instances
abbrev pub size : List (List Event) → ℕ
size L = sum_by length L

-- instance i has an event k, and it is e
pub record At (L : List (List Event)) (i k : ℕ) (e : Event) : Type 0 where
  pub within : k < count_of L i
  pub is : event_of L i k ≡ e
