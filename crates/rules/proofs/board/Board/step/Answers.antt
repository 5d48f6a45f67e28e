use Rattle.std.proofs.Common.{◌≡◌, ℕ, ◌+◌, ◌^◌, ◌<◌, ◌≤◌, Bool, true, not, ◌&&◌, eqb, ltb, List, length, Some, sym, ap, ◌∙◌, subst, ap₂, inl, inr, arith}
use Rattle.std.proofs.lemmas.Bool.{and_parts, ltb-true}
use Rattle.charts.specs.declared.parts.Event.{Event}
use Rattle.charts.specs.Events.{output}
use Rattle.charts.specs.Lists.{count_of}
use Rattle.charts.proofs.Bounds.{count_size}
use Rattle.copies.specs.Kept.{kept}
use Rattle.copies.specs.Slots.{slot_at, slot_of}
use Rattle.copies.specs.declared.parts.Slot.{Slot}
use Rattle.copies.proofs.Kept.{kept_sound}
use Rattle.orders.specs.Driving.{moved}
use Rattle.orders.proofs.Tallying.{bit}
use Rattle.rules.specs.declared.board.Board.{Board}
use Rattle.rules.specs.declared.row.Row.{Row}
use Rattle.rules.specs.Places.{place_of, sent_of, Within, Tallied}
use Rattle.rules.specs.Rules.{mate_ran, sends_now, receives_now}
use Rattle.rules.proofs.Allowing.{slot_there}
use Rattle.rules.proofs.Stepped.{below, send_fits, was_sent, still_within, still_tallied}
use Rattle.rules.proofs.board.Board.step.Goals as goal

-- the next event of an unfinished instance, as the calls were told of it
module _ (b : Board) (i : ℕ) (x : Slot) (next : slot_at (kept b.copy) i (place_of b.rows.table i) ≡ Some x)
    (w : ℕ) (width : w ≡ length (kept b.copy)) (r : Bool) (ran : r ≡ mate_ran (place_of b.rows.table) x) where
  L : List (List Event)
  L = kept b.copy

  left : place_of b.rows.table i < count_of (kept b.copy) i
  left = (slot_there (kept b.copy) i (place_of b.rows.table i) x next).0

  is : x ≡ slot_of (kept b.copy) i (place_of b.rows.table i)
  is = (slot_there (kept b.copy) i (place_of b.rows.table i) x next).1

  low : i < 32
  low =
      let few = (kept_sound b.copy).few_instances in
      let n = below (kept b.copy) (kept_sound b.copy) b.rows.table b.within i b.tallied left in
      omega arith

  narrow : w ≤ 32
  narrow = let few = (kept_sound b.copy).few_instances in omega arith

  fits : sends_now w r x ≡ true → sent_of b.rows.table i x.event.peer + 1 < 2 ^ 16
  fits s =
      let near = ltb-true x.event.peer w (and_parts (ltb x.event.peer w) (not r) (and_parts (eqb x.event.kind output) (ltb x.event.peer w && not r) s).1).0 in
      let same = ap (λ (y : Slot). y.event.peer) is in
      elim (send_fits (kept b.copy) (kept_sound b.copy) b.rows.table b.within i b.tallied left) [
        | inl f ↦ let q = ap (λ (y : Slot). sent_of b.rows.table i y.event.peer) is in omega arith
        | inr far ↦ absurd (omega arith)
      ]

  sent : receives_now w r x ≡ true → 1 ≤ sent_of b.rows.table x.event.peer i
  sent t =
      let m = was_sent (kept b.copy) (kept_sound b.copy) b.rows.table b.within i b.tallied left (sym (same_receives) ∙ t) in
      let q = ap (λ (y : Slot). sent_of b.rows.table y.event.peer i) is in
      omega arith
    where
      same_receives : receives_now w r x ≡ receives_now (length (kept b.copy)) (mate_ran (place_of b.rows.table) (slot_of (kept b.copy) i (place_of b.rows.table i))) (slot_of (kept b.copy) i (place_of b.rows.table i))
      same_receives =
          ap₂ (λ (n : ℕ) (d : Bool). receives_now n d x) width ran
          ∙ ap (λ (y : Slot). receives_now (length (kept b.copy)) (mate_ran (place_of b.rows.table) y) y) is

  -- the positions and counts after the step, as the calls left them
  module _ (mid after : List Row) (kept_places : (y : ℕ) → place_of mid y ≡ place_of b.rows.table y)
      (passed : (a y : ℕ) → sent_of mid a y + bit (receives_now w r x && (eqb x.event.peer a && eqb i y)) ≡ sent_of b.rows.table a y + bit (sends_now w r x && (eqb i a && eqb x.event.peer y)))
      (moves : (y : ℕ) → place_of after y ≡ moved (place_of mid) i y) (same : (a y : ℕ) → sent_of after a y ≡ sent_of mid a y) where
    places : (y : ℕ) → place_of after y ≡ moved (place_of b.rows.table) i y
    places y = let m = moves y in let k = kept_places y in omega arith

    within' : Within (kept b.copy) after
    within' = still_within (kept b.copy) (kept_sound b.copy) b.rows.table b.within i b.tallied left after places

    counts : (n : ℕ) (d : Bool) (y : Slot) → n ≡ w → d ≡ r → y ≡ x → (a z : ℕ) →
        sent_of after a z + bit (receives_now n d y && (eqb y.event.peer a && eqb i z)) ≡ sent_of b.rows.table a z + bit (sends_now n d y && (eqb i a && eqb y.event.peer z))
    counts n d y nw dr yx a z =
        subst (λ (n : ℕ). sent_of after a z + bit (receives_now n d y && (eqb y.event.peer a && eqb i z)) ≡ sent_of b.rows.table a z + bit (sends_now n d y && (eqb i a && eqb y.event.peer z))) (sym nw)
        (subst (λ (d : Bool). sent_of after a z + bit (receives_now w d y && (eqb y.event.peer a && eqb i z)) ≡ sent_of b.rows.table a z + bit (sends_now w d y && (eqb i a && eqb y.event.peer z))) (sym dr)
        (subst (λ (y : Slot). sent_of after a z + bit (receives_now w r y && (eqb y.event.peer a && eqb i z)) ≡ sent_of b.rows.table a z + bit (sends_now w r y && (eqb i a && eqb y.event.peer z))) (sym yx)
        (let q = passed a z in let s = same a z in omega arith)))

    tallied' : Tallied (kept b.copy) after
    tallied' =
        still_tallied (kept b.copy) (kept_sound b.copy) b.rows.table b.within i b.tallied left after places
        (counts (length (kept b.copy)) (mate_ran (place_of b.rows.table) (slot_of (kept b.copy) i (place_of b.rows.table i))) (slot_of (kept b.copy) i (place_of b.rows.table i))
        (sym width) (ap (mate_ran (place_of b.rows.table)) (sym is) ∙ sym ran) (sym is))

pub pass-requires : goal.pass-requires
pass-requires c =
    let b = c.args.self.now in
    let i = c.args.i in
    let x = c.args.slot in
    let e = c.requires.next in
    let w = c.width-width.result in
    let r = c.mate_ran-ran.result in
    record {
      instance = low b i x e w c.width-width.ensures r c.mate_ran-ran.ensures;
      narrow = narrow b i x e w c.width-width.ensures r c.mate_ran-ran.ensures;
      fits = fits b i x e w c.width-width.ensures r c.mate_ran-ran.ensures;
      sent = sent b i x e w c.width-width.ensures r c.mate_ran-ran.ensures;
    }

pub advance-requires : goal.advance-requires
advance-requires c =
    let b = c.args.self.now in
    let i = c.args.i in
    let x = c.args.slot in
    let e = c.requires.next in
    let n = low b i x e c.width-width.result c.width-width.ensures c.mate_ran-ran.result c.mate_ran-ran.ensures in
    let p = c.pass.ensures.places i in
    let w = b.within i in
    let s = count_size (kept b.copy) i in
    let few = (kept_sound b.copy).few_events in
    record { instance = n; fits = omega arith }

pub invariant_of-self : goal.invariant_of-self
invariant_of-self c =
    let b = c.args.self.now in
    let i = c.args.i in
    let x = c.args.slot in
    let e = c.requires.next in
    let w = c.width-width.result in
    let r = c.mate_ran-ran.result in
    let mid = c.pass.new.self.table in
    let after = c.advance.new.self.table in record {
      within = within' b i x e w c.width-width.ensures r c.mate_ran-ran.ensures mid after c.pass.ensures.places c.pass.ensures.counts c.advance.ensures.places c.advance.ensures.counts;
      tallied = tallied' b i x e w c.width-width.ensures r c.mate_ran-ran.ensures mid after c.pass.ensures.places c.pass.ensures.counts c.advance.ensures.places c.advance.ensures.counts;
    }
