use Rattle.copies.specs.Kept.{grid_lists}
use Rattle.copies.specs.Noted.{NotedBefore}
use Rattle.copies.proofs.noting.note_messages.Given as goal

abbrev pub invariant-loop-i : goal.invariant-loop-i
invariant-loop-i l = NotedBefore (grid_lists l.grid) l.i l.places
