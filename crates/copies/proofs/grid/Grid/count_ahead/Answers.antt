use Rattle.std.proofs.Common.{◌≡◌, ℕ, count_by, take, ap, ◌∙◌, rules, arith}
use Rattle.copies.specs.declared.parts.Slot.{Slot}
use Rattle.copies.specs.Kept.{grid_lists}
use Rattle.copies.specs.Slots.{is_ahead}
use Rattle.copies.proofs.Grids.{grid_sound}
use Rattle.copies.proofs.Ranks.{passing_counted}
use Rattle.copies.proofs.grid.Grid.count_ahead.Goals as goal

pub returns : goal.returns
returns c =
    let g = c.args.self.now in
    let ss = c.column.result.now in
    let counted : c.count.result ≡ count_by (is_ahead c.args.i c.args.k) (take c.from.result ss) = search rules in
    counted ∙ ap (λ (n : ℕ). count_by (is_ahead c.args.i c.args.k) (take n ss)) c.from.ensures
    ∙ passing_counted (grid_lists g) (grid_sound g) c.args.sender c.args.i c.args.sent c.args.k ss c.requires.receiver (omega arith) c.column.ensures.events
    (λ l b. ap (λ (s : Slot). s.mate) (c.column.ensures.places l b) ∙ c.requires.mated c.args.sender l (let n = c.column.ensures.count in omega arith))
