-- A table written out: the lengths on the first line, and then each event on a line of its own.
use Rattle.std.specs.Prelude.{ℕ, ◌<◌, List, [], ◌∷◌, ◌++◌, map, decimal}
use Rattle.std.specs.List.{AllByRecursion}
use Rattle.charts.specs.declared.parts.Event.{Event}
use Rattle.charts.specs.Texts.{spaced}
use Rattle.tabletexts.specs.Table.{Table}

-- an event's line
abbrev pub row : Event → List ℕ
row e = spaced (decimal e.kind ∷ decimal e.peer ∷ decimal e.number ∷ [])

-- the events, each with a line feed behind it
abbrev pub rows : List Event → List ℕ
rows [] = []
rows (e ∷ es) = row e ++ (10 ∷ rows es)

-- the whole table
abbrev pub written : Table → List ℕ
written t = spaced (map decimal t.lengths) ++ (10 ∷ rows t.events)

-- the numbers of an event fit their fields
pub record FitsEvent (e : Event) : Type 0 where
  pub kind : e.kind < 256
  pub peer : e.peer < 256
  pub number : e.number < 65536

-- the numbers of a table fit their fields
pub record FitsTable (t : Table) : Type 0 where
  pub lengths : AllByRecursion (λ n. n < 65536) t.lengths
  pub events : AllByRecursion FitsEvent t.events
