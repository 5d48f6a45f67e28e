use Rattle.std.proofs.Common.{◌≡◌, ℕ, ◌+◌, ◌-◌, ◌<◌, get_or, drop, refl, ap, ◌∙◌, arith}
use Rattle.std.proofs.lemmas.List.{get_or-drop, get_or-take, length-drop, length-take}
use Rattle.charts.specs.Lists.{count_of}
use Rattle.copies.specs.Grids.{no_slot, place_of}
use Rattle.copies.specs.Kept.{grid_lists}
use Rattle.copies.proofs.Grids.{grid_column, grid_instance}
use Rattle.copies.proofs.grid.Grid.column.Goals as goal

pub returns : goal.returns
returns c =
    let g = c.args.self.now in
    let p = c.places-places.result in
    let places = c.places-places.ensures in
    let n : p.end - p.start ≡ count_of (grid_lists g) c.args.i = omega arith in
    let part = drop p.start g.slots in
    let l = length-take (p.end - p.start) part in
    let d = length-drop p.start g.slots in
    let z = g.long in
    record {
      events = rw n (grid_column g c.args.i p.start places.start g.slots refl);
      count = omega arith;
      few = omega arith;
      places = λ k h.
          let b : k < p.end - p.start = omega arith in
          let s = places.start (grid_instance g c.args.i k (omega arith)) in
          let at : p.start + k ≡ place_of g.columns c.args.i k = omega arith in
          get_or-take (p.end - p.start) part k no_slot b ∙ get_or-drop p.start g.slots k no_slot
          ∙ ap (λ (m : ℕ). get_or g.slots m no_slot) at;
    }
