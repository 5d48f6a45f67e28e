use Rattle.std.proofs.Common.{ℕ, List, length, drop, sym, ap, ◌∙◌, subst, arith}
use Rattle.std.proofs.lemmas.List.{length_push, take_rest}
use Rattle.copies.specs.Kept.{kept}
use Rattle.copies.proofs.Kept.{kept_sound}
use Rattle.rules.specs.Places.{place_of}
use Rattle.rings.specs.Members.{FirstAt, Nowhere}
use Rattle.rings.specs.Walks.{waits_on, walk_from}
use Rattle.rings.proofs.Walks.{Turns, turns_start, turns_outside, turns_twice, turns_short, turns_on}
use Rattle.rings.proofs.walk.walk.Goals as goal

pub loop-x-init : goal.loop-x-init
loop-x-init c =
    let b = c.args.board.now in
    let next = waits_on (kept b.copy) (place_of b.rows.table) in
    let whole = walk_from (kept b.copy) (place_of b.rows.table) c.args.from in
    subst (λ (met : List ℕ). Turns next (length (kept b.copy)) whole met c.args.from) (sym c.new-path.ensures) (turns_start next (length (kept b.copy)) c.args.from)

pub overflow_cast-x : goal.overflow_cast-x
overflow_cast-x c = let few = (kept_sound c.args.board.now.copy).few_instances in omega arith

pub returns-in-Some : goal.returns-in-Some
returns-in-Some c =
    let t = c.loop-x in
    c.from_members.ensures ∙ take_rest c.deref.result.now c.in-Some.start ∙ ap (drop c.in-Some.start) c.deref.ensures.0 ∙ turns_twice _ _ _ t.path.items t.x t.invariant (omega arith) c.in-Some.start
    (subst (λ (met : List ℕ). FirstAt met t.x c.in-Some.start) c.as_slice.ensures.value c.in-Some.ensures)

pub meet-x-requires : goal.meet-x-requires
meet-x-requires c =
    let t = c.loop-x in
    let new = subst (λ (met : List ℕ). Nowhere met t.x) c.as_slice.ensures.value c.in_default.ensures in
    let less = turns_short _ _ _ t.path.items t.x t.invariant (omega arith) new in
    let few = (kept_sound c.args.board.now.copy).few_instances in
    record { instance = omega arith; room = omega arith }

pub loop-x-smaller : goal.loop-x-smaller
loop-x-smaller c =
    let t = c.loop-x in
    let new = subst (λ (met : List ℕ). Nowhere met t.x) c.as_slice.ensures.value c.in_default.ensures in
    let less = turns_short _ _ _ t.path.items t.x t.invariant (omega arith) new in
    rw (c.meet-x.ensures.met, length_push) (omega arith)

pub loop-x-preserved : goal.loop-x-preserved
loop-x-preserved c =
    let t = c.loop-x in
    let new = subst (λ (met : List ℕ). Nowhere met t.x) c.as_slice.ensures.value c.in_default.ensures in
    rw (c.meet-x.ensures.met, c.meet-x.ensures.next) (turns_on _ _ _ t.path.items t.x t.invariant (omega arith) new)

pub returns : goal.returns
returns c =
    let t = c.loop-x in
    c.none.ensures ∙ turns_outside _ _ _ t.path.items t.x t.invariant (omega arith)
