use Rattle.std.proofs.Common.{inl, inr, arith}
use Rattle.copies.specs.Kept.{grid_lists}
use Rattle.copies.proofs.Events.{event_at}
use Rattle.copies.proofs.Grids.{grid_sound}
use Rattle.copies.proofs.Notes.{noted_more, noted_column}
use Rattle.copies.proofs.noting.note_column.Goals as goal

pub loop-k-init : goal.loop-k-init
loop-k-init c j l e end a (inl b) of = c.requires j l e end a b of
loop-k-init c j l e end a (inr b) of = absurd (let n = b.1 in omega arith)

pub loop-k-preserved : goal.loop-k-preserved
loop-k-preserved c =
    let g = c.args.grid.now in
    let a = event_at (grid_lists g) c.args.i c.loop-k.k c.column-slot-items.result.now c.column-slot-items.ensures.events c.loop-k-test.true in
    noted_more (grid_lists g) (grid_sound g) c.args.i c.loop-k.k _ c.loop-k.places c.note.new.places a c.note.ensures c.loop-k.invariant

pub returns : goal.returns
returns c = noted_column (grid_lists c.args.grid.now) c.args.i c.loop-k.k c.loop-k.places (omega arith) c.loop-k.invariant
