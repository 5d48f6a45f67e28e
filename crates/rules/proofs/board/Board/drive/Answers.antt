use Rattle.std.proofs.Common.{length, refl, sym, ap, ◌∙◌, arith}
use Rattle.std.proofs.lemmas.List.{set-get_or}
use Rattle.copies.specs.Kept.{kept}
use Rattle.copies.proofs.Kept.{kept_sound}
use Rattle.rules.specs.Boards.{lists_of, positions}
use Rattle.rules.specs.Held.{held_now}
use Rattle.rules.proofs.Drove.{turns_none, turns_stop, turn_more, turn_stop, fits_byte}
use Rattle.rules.proofs.Candidates.{covers_all, covers_on}
use Rattle.rules.proofs.board.Board.drive.Goals as goal

pub loop-made-init : goal.loop-made-init
loop-made-init g c =
    let b = c.args.self.now in
    let M = g.M.Medium.carries c.args.medium.now in (
      refl,
      turns_none (held_now M (kept b.copy) c.args.held) (length (kept b.copy)) b.rows.table c.args.out.now,
      covers_all (held_now M (lists_of b) c.args.held (positions b)) (length (lists_of b)) c.all-candidates.result (kept_sound b.copy).few_instances c.all-candidates.ensures,
    )

pub returns-in_default : goal.returns-in_default
returns-in_default g c =
    let M = g.M.Medium.carries c.args.medium.now in
    let L = kept c.args.self.now.copy in
    let l = c.loop-made in
    let stop = turn_stop M L c.args.held (kept l.self.copy) (ap kept (sym l.invariant.0)) l.self.rows.table c.in_default.ensures.lowest in
    let r = turns_stop (held_now M L c.args.held) (length L) l.made (length c.args.out.now) _ l.self.rows.table c.args.out.now l.out l.invariant.1 (omega arith) stop in
    record { keeps = l.invariant.0; wrote = rw (set-get_or l.out l.made 0) r.1; made = r.0 }

pub overflow_cast-cell : goal.overflow_cast-cell
overflow_cast-cell g c =
    let l = c.loop-made in
    let f = fits_byte (kept l.self.copy) (kept_sound l.self.copy) c.in-Some.i _ c.in-Some.ensures.lowest.0 in
    omega arith

pub loop-made-preserved : goal.loop-made-preserved
loop-made-preserved g c =
    let M = g.M.Medium.carries c.args.medium.now in
    let L = kept c.args.self.now.copy in
    let l = c.loop-made in (
      c.step.ensures.keeps ∙ l.invariant.0,
      turn_more M L c.args.held (kept l.self.copy) (ap kept (sym l.invariant.0)) l.made _ l.self.rows.table _ c.args.out.now l.out c.in-Some.i
          l.invariant.1 (omega arith) c.in-Some.ensures.lowest.0 c.step.ensures.moves,
      covers_on M c.args.held l.self c.step.new.self c.step.ensures.keeps c.lowest_among.new.candidates c.insert.new.self c.in-Some.ensures.covers c.in-Some.i c.in-Some.ensures.lowest.0
          c.in-Some.slot c.in-Some.ensures.lowest.1 c.from.result c.from.ensures c.insert.ensures c.step.ensures.moves,
    )
