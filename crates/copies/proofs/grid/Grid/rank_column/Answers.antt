use Rattle.std.proofs.Common.{◌≡◌, ℕ, ◌+◌, ◌-◌, List, take, ap, ◌∙◌, inl, inr, arith}
use Rattle.std.proofs.lemmas.Bool.{cases_lt}
use Rattle.std.proofs.lemmas.Grind.{get_or-set_at}
use Rattle.std.proofs.lemmas.List.{get_or-set_other, length-set}
use Rattle.charts.specs.declared.parts.Event.{Event}
use Rattle.charts.specs.Lists.{event_of}
use Rattle.copies.specs.declared.parts.Slot.{Slot}
use Rattle.copies.specs.Grids.{faultless, no_slot}
use Rattle.copies.specs.Kept.{grid_lists}
use Rattle.copies.specs.Lists.{counts}
use Rattle.copies.specs.Slots.{ahead_of}
use Rattle.copies.proofs.Rerankings.{told_events, told_mates, still_mated, here, here_mate, here_ahead}
use Rattle.copies.proofs.grid.Grid.rank_column.Goals as goal

pub ahead-ahead-requires-clause-mated : goal.ahead-ahead-requires-clause-mated
ahead-ahead-requires-clause-mated c = still_mated c.args.self.now c.loop-at.self c.loop-at.invariant.same c.requires.mated

pub ahead-ahead-requires-clause-here : goal.ahead-ahead-requires-clause-here
ahead-ahead-requires-clause-here c =
    here c.args.self.now c.loop-at.self c.loop-at.invariant.same c.requires.mated c.args.i c.places-places.result.start c.loop-at.at (c.places-places.ensures.start c.requires.here) (omega arith) (omega arith)

pub ahead-ahead-requires-clause-mate : goal.ahead-ahead-requires-clause-mate
ahead-ahead-requires-clause-mate c =
    here_mate c.args.self.now c.loop-at.self c.loop-at.invariant.same c.requires.mated c.args.i c.places-places.result.start c.loop-at.at (c.places-places.ensures.start c.requires.here) (omega arith) (omega arith)

pub invariant_of-self : goal.invariant_of-self
invariant_of-self c =
    let h = c.loop-at.self in
    record {
      wide = h.wide;
      long = length-set h.slots c.loop-at.at _ ∙ h.long;
      narrow = h.narrow;
      placed = h.placed;
      total = h.total;
      sound = ap (λ (es : List Event). faultless (take h.width (counts h.columns)) (take h.events es)) (told_events h.slots c.loop-at.at c.ahead-ahead.result) ∙ h.sound;
    }

pub loop-at-preserved : goal.loop-at-preserved
loop-at-preserved c =
    let g = c.args.self.now in
    let h = c.loop-at.self in
    let at = c.loop-at.at in
    let start = c.places-places.result.start in
    let so = c.loop-at.invariant in
    let n = c.ahead-ahead.result in
    let long = h.long in
    record {
      same = record { width = so.same.width; columns = so.same.columns; events = told_events h.slots at n ∙ so.same.events; mates = told_mates h.slots at n ∙ so.same.mates };
      ranked = λ k b. elim (cases_lt (start + k) at) [
        | inl l ↦ ap (λ (s : Slot). s.ahead) (get_or-set_other h.slots at (start + k) _ no_slot (λ e. omega arith)) ∙ so.ranked k l
        | inr l ↦
            let last : at - start ≡ k = omega arith in
            ap (λ (s : Slot). s.ahead) (get_or-set_at h.slots at (start + k) _ no_slot (omega arith) (omega arith)) ∙ c.ahead-ahead.ensures
            ∙ here_ahead g h so.same c.requires.mated c.args.i start at (c.places-places.ensures.start c.requires.here) (omega arith) (omega arith)
            ∙ ap (λ (m : ℕ). ahead_of (grid_lists g) c.args.i m (event_of (grid_lists g) c.args.i m)) last
      ];
      before = λ p b. get_or-set_other h.slots at p _ no_slot (λ e. omega arith) ∙ so.before p b;
    }
