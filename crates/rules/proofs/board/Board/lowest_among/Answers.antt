use Rattle.std.proofs.Common.{length}
use Rattle.copies.proofs.Kept.{kept_sound}
use Rattle.rules.specs.Boards.{lists_of, positions}
use Rattle.rules.specs.Held.{held_now}
use Rattle.rules.proofs.Candidates.{covered_found, covered_none, covers_without, may_width}
use Rattle.rules.proofs.board.Board.lowest_among.Goals as goal

pub returns-in-Some-runnable-clause-lowest : goal.returns-in-Some-runnable-clause-lowest
returns-in-Some-runnable-clause-lowest g c =
    let b = c.args.self.now in
    let M = g.M.Medium.carries c.args.medium.now in
    let t = c.in-Some-runnable.ensures.0 in
    let low = may_width M (lists_of b) (kept_sound b.copy) c.args.held (positions b) c.in-Some.j t in
    (covered_found (held_now M (lists_of b) c.args.held (positions b)) (length (lists_of b)) c.loop-j.candidates c.loop-j.invariant c.in-Some.j low t c.in-Some.ensures.2, c.in-Some-runnable.ensures.1)

pub loop-j-preserved : goal.loop-j-preserved
loop-j-preserved g c =
    let b = c.args.self.now in
    let M = g.M.Medium.carries c.args.medium.now in
    covers_without (held_now M (lists_of b) c.args.held (positions b)) (length (lists_of b)) c.loop-j.candidates (kept_sound b.copy).few_instances c.loop-j.invariant
    c.remove.new.self c.in-Some.j c.remove.ensures.members c.in_default-runnable.ensures

pub returns-clause-lowest : goal.returns-clause-lowest
returns-clause-lowest g c =
    let b = c.args.self.now in
    let M = g.M.Medium.carries c.args.medium.now in
    covered_none (held_now M (lists_of b) c.args.held (positions b)) (length (lists_of b)) c.loop-j.candidates (kept_sound b.copy).few_instances c.loop-j.invariant c.in_default.ensures
