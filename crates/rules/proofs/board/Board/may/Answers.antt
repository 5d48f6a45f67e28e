use Rattle.std.proofs.Common.{sym, ◌∙◌}
use Rattle.copies.specs.Kept.{kept}
use Rattle.copies.proofs.Kept.{kept_sound}
use Rattle.rules.proofs.Allowing.{slot_says}
use Rattle.rules.proofs.board.Board.may.Goals as goal

pub returns-in-Some : goal.returns-in-Some
returns-in-Some g c =
    let b = c.args.self.now in
    let M = g.M.Medium.carries c.args.medium.now in
    c.allows.ensures ∙ slot_says M (kept b.copy) (kept_sound b.copy) b.rows.table b.tallied c.args.i c.in-Some.slot (sym c.next.ensures ∙ c.in-Some.is)
