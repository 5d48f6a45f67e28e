use Rattle.std.proofs.Common.{sym, ap, ◌∙◌}
use Rattle.std.proofs.lemmas.Bool.{lt-ltb, cond-true}
use Rattle.charts.specs.Lists.{count_of}
use Rattle.orders.specs.Deciding.{unfinished, waits_now}
use Rattle.copies.specs.Kept.{kept}
use Rattle.copies.proofs.Kept.{kept_sound}
use Rattle.rules.specs.Places.{place_of}
use Rattle.rules.specs.Rules.{slot_waits}
use Rattle.rules.proofs.Allowing.{slot_there, slot_waits_lem}
use Rattle.rules.proofs.board.Board.waits_for.Goals as goal

pub returns-in-Some : goal.returns-in-Some
returns-in-Some c =
    let x = c.args.self.now in
    let L = kept x.copy in
    let p = place_of x.rows.table in
    let i = c.args.i in
    let s = slot_there L i (p i) c.in-Some.slot (sym c.next.ensures ∙ c.in-Some.is) in
    let w = slot_waits_lem L (kept_sound x.copy) p i (p i) s.0 in
    c.awaits.ensures ∙ ap (slot_waits p i) s.1 ∙ w ∙ sym (cond-true (unfinished L p i) (waits_now L p i) i (lt-ltb (p i) (count_of L i) s.0))
