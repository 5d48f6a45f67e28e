use Rattle.copies.specs.Kept.{grid_lists}
use Rattle.copies.proofs.Notes.{NotedTo}
use Rattle.copies.proofs.noting.note_column.Given as goal

abbrev pub invariant-loop-k : goal.invariant-loop-k
invariant-loop-k l = NotedTo (grid_lists l.grid) l.i l.k l.places
