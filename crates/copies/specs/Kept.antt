-- The lists of a copy.
use Rattle.std.specs.Prelude.{List}
use Rattle.charts.specs.declared.parts.Event.{Event}
use Rattle.copies.specs.declared.grid.Grid.{Grid}
use Rattle.copies.specs.declared.indexed.Indexed.{Indexed}
use Rattle.copies.specs.Lists.{kept_lists}

-- the lists of a grid
abbrev pub grid_lists : Grid → List (List Event)
grid_lists g = kept_lists g.width g.columns g.slots

-- the lists of a copy
abbrev pub kept : Indexed → List (List Event)
kept x = grid_lists x.grid
