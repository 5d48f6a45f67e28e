use Rattle.std.proofs.Common.{Bool, not, ◌&&◌, length, sym, ap, ◌∙◌, ap₂}
use Rattle.std.proofs.lemmas.Bool.{and_left, and_right}
use Rattle.copies.specs.Kept.{kept}
use Rattle.copies.proofs.Kept.{kept_sound}
use Rattle.rules.specs.Held.{is_held}
use Rattle.rules.specs.Places.{place_of, sent_of}
use Rattle.rules.specs.Rules.{slot_may}
use Rattle.rules.proofs.Allowing.{slot_says_held}
use Rattle.rules.proofs.board.Board.runnable.Goals as goal
use Rattle.rules.proofs.board.Board.runnable.Goals.{else-not-is_held-via-then-not-is_held+else-allows, else-not-is_held-via-else-not-is_held}

pub returns-then-allows : goal.returns-then-allows
returns-then-allows g c =
    let b = c.args.self.now in
    let M = g.M.Medium.carries c.args.medium.now in
    let e = sym c.next.ensures ∙ c.in_ok-slot.was in
    let r = slot_says_held M (kept b.copy) (kept_sound b.copy) b.rows.table b.tallied c.args.held c.args.j c.in_ok-slot.slot e in
    (r ∙ ap₂ (λ (x y : Bool). x && y) (sym c.allows.ensures ∙ c.if-allows.true) (ap not (sym c.is_held.ensures ∙ c.if-not-is_held.true)), e)

pub returns-else-not-is_held : goal.returns-else-not-is_held
returns-else-not-is_held g c =
    let b = c.args.self.now in
    let M = g.M.Medium.carries c.args.medium.now in
    let e = sym c.next.ensures ∙ c.in_ok-slot.was in
    let x = c.in_ok-slot.slot in
    let may = slot_may M (length (kept b.copy)) (place_of b.rows.table) (sent_of b.rows.table) c.args.j x in
    let r = slot_says_held M (kept b.copy) (kept_sound b.copy) b.rows.table b.tallied c.args.held c.args.j x e in
    elim c.else-not-is_held.branch [
      | else-not-is_held-via-then-not-is_held+else-allows w ↦ r ∙ and_left may (not (is_held c.args.held (place_of b.rows.table) c.args.j)) (sym w.allows.ensures ∙ w.if-allows.false)
      | else-not-is_held-via-else-not-is_held w ↦
          r ∙ and_right may (not (is_held c.args.held (place_of b.rows.table) c.args.j)) (ap not (sym c.is_held.ensures ∙ w.if-not-is_held.false))
    ]
