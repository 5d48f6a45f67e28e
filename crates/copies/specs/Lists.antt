-- The lists that columns and slots hold.
use Rattle.std.specs.Prelude.{ℕ, List, map, take}
use Rattle.charts.specs.declared.parts.Event.{Event}
use Rattle.checks.specs.Cut.{cut}
use Rattle.copies.specs.declared.parts.Slot.{Slot}
use Rattle.copies.specs.declared.parts.Column.{Column}

-- the number of events in each column
abbrev pub counts : List Column → List ℕ
counts cs = map (λ c. c.count) cs

-- the events of the slots
abbrev pub events_in : List Slot → List Event
events_in ss = map (λ s. s.event) ss

-- the lists of the first so many columns, cut from the events of the slots
abbrev pub kept_lists : ℕ → List Column → List Slot → List (List Event)
kept_lists width cs ss = cut (take width (counts cs)) (events_in ss)
