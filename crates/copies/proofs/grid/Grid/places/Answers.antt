use Rattle.std.proofs.Common.{arith}
use Rattle.copies.specs.Grids.{no_column}
use Rattle.copies.proofs.Grids.{grid_here, first_columns, grid_nowhere}
use Rattle.copies.proofs.grid.Grid.places.Goals as goal

pub overflow_add-result : goal.overflow_add-result
overflow_add-result c =
    let at = c.in-Some.ensures.lookup.3 in
    let here = grid_here c.args.self.now c.args.i c.in-Some.column.now at.0 (at.1 no_column) in
    let room = here.room in
    omega arith

pub returns-in-Some : goal.returns-in-Some
returns-in-Some c =
    let at = c.in-Some.ensures.lookup.3 in
    let here = grid_here c.args.self.now c.args.i c.in-Some.column.now at.0 (at.1 no_column) in
    let start = here.start in
    let count = here.count in
    let room = here.room in
    record { start = λ h. omega arith; count = omega arith; within = omega arith }

pub returns-in-None : goal.returns-in-None
returns-in-None c =
    let past = c.in-None.ensures.lookup.3 in
    let wide = first_columns c.args.self.now in
    let none = grid_nowhere c.args.self.now c.args.i past in
    record { start = λ h. absurd (omega arith); count = omega arith; within = omega arith }
