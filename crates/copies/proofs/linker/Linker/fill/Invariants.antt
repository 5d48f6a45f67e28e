use Rattle.std.proofs.Common.{◌≡◌, ℕ, ◌<◌, List, get_or}
use Rattle.charts.specs.declared.parts.Event.{Event}
use Rattle.copies.specs.Grids.{no_slot}
use Rattle.copies.specs.Linked.{HasMate, Links}
use Rattle.copies.proofs.linker.Linker.fill.Given as goal

abbrev pub invariant-loop-slot : goal.invariant-loop-slot
invariant-loop-slot l = record {
  same : (j : ℕ) → (get_or l.slot-items j no_slot).event ≡ (get_or l.initial.slot-items j no_slot).event;
  mated : (L : List (List Event)) (j : ℕ) → Links l.self L → j < l.slot-index → HasMate L (get_or l.slot-items j no_slot);
}
