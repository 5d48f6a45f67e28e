use Rattle.copies.specs.Kept.{grid_lists}
use Rattle.copies.proofs.Mates.{mated_slots}
use Rattle.copies.proofs.Grids.{grid_sound, grid_width}
use Rattle.copies.proofs.indexed.Indexed.new.Goals as goal

pub rank-requires : goal.rank-requires
rank-requires g c =
    let x = c.new-grid.result in
    mated_slots x c.fill.new.slots c.fill.ensures.same
    (λ p h. c.fill.ensures.mated (grid_lists x) p (record { sound = grid_sound x; wide = grid_width x; noted = c.note_messages.ensures }) h)
