-- Grids that differ in what is ahead of messages alone.
use Rattle.std.specs.Prelude.{◌≡◌, ℕ, List, map}
use Rattle.copies.specs.declared.grid.Grid.{Grid}
use Rattle.copies.specs.declared.parts.Slot.{Slot}
use Rattle.copies.specs.Lists.{events_in}

-- where the other event of each slot's message stands
abbrev pub mates_in : List Slot → List ℕ
mates_in ss = map (λ s. s.mate) ss

-- the same columns, the same events, each with the same mate
pub record Reranked (g h : Grid) : Type 0 where
  pub width : h.width ≡ g.width
  pub columns : h.columns ≡ g.columns
  pub events : events_in h.slots ≡ events_in g.slots
  pub mates : mates_in h.slots ≡ mates_in g.slots
