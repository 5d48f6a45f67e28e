use Rattle.std.proofs.Common.{◌≡◌, ℕ, ◌+◌, ◌<◌, get_or}
use Rattle.charts.specs.Lists.{event_of}
use Rattle.copies.specs.Grids.{no_slot}
use Rattle.copies.specs.Kept.{grid_lists}
use Rattle.copies.specs.Reranked.{Reranked}
use Rattle.copies.specs.Slots.{ahead_of}
use Rattle.copies.proofs.grid.Grid.rank_column.Given as goal

abbrev pub invariant-loop-at : goal.invariant-loop-at
invariant-loop-at l = record {
  same : Reranked l.initial.self l.self;
  ranked : (k : ℕ) → l.places.start + k < l.at → (get_or l.self.slots (l.places.start + k) no_slot).ahead ≡ ahead_of (grid_lists l.initial.self) l.i k (event_of (grid_lists l.initial.self) l.i k);
  before : (p : ℕ) → p < l.places.start → get_or l.self.slots p no_slot ≡ get_or l.initial.self.slots p no_slot;
}
