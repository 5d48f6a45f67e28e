use Rattle.std.proofs.Common.{◌≡◌, ◌<◌, length, sym, ap, ◌∙◌, arith}
use Rattle.charts.specs.Lists.{count_of}
use Rattle.copies.specs.Kept.{grid_lists}
use Rattle.copies.proofs.Grids.{grid_sound, grid_width}
use Rattle.copies.proofs.Links.{ahead_other, ahead_outside, mate_input}
use Rattle.copies.proofs.Partners.{sent_within}
use Rattle.copies.proofs.grid.Grid.ahead.Goals as goal
use Rattle.copies.proofs.grid.Grid.ahead.Goals.{else-slot-code-via-then-slot-code+else-sender-self, else-slot-code-via-else-slot-code}

pub count_ahead-requires-clause-within : goal.count_ahead-requires-clause-within
count_ahead-requires-clause-within c =
    let g = c.args.self.now in
    let L = grid_lists g in
    let e = c.args.slot.event in
    let wide = grid_width g in
    let w : e.peer < length L = omega arith in
    let kind : e.kind ≡ 2 = omega arith in
    let sent = sent_within L (grid_sound g) c.args.i c.args.k e c.requires.here kind w in
    let mate = c.requires.mate ∙ mate_input L c.args.i e w kind in
    let count = ap (count_of L) c.from-sender.ensures in
    omega arith

pub returns-else-slot-code : goal.returns-else-slot-code
returns-else-slot-code c =
    let g = c.args.self.now in
    let e = c.args.slot.event in
    let wide = grid_width g in
    elim c.else-slot-code.branch [
      | else-slot-code-via-then-slot-code+else-sender-self w ↦
          let h = w.if-sender-self.false in
          sym (ahead_outside (grid_lists g) c.args.i c.args.k e (omega arith))
      | else-slot-code-via-else-slot-code w ↦
          let h = w.if-slot-code.false in
          sym (ahead_other (grid_lists g) c.args.i c.args.k e (λ o. omega arith))
    ]
