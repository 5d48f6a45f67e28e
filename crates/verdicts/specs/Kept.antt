-- The lists that tables hold.
use Rattle.std.specs.Prelude.{List, take}
use Rattle.charts.specs.declared.parts.Event.{Event}
use Rattle.tables.specs.TableLists.{table_lists}
use Rattle.verdicts.specs.declared.charted.Charted.{Charted}

-- the lists of the rows in use
abbrev pub lists_in : Charted → List (List Event)
lists_in c = table_lists (take c.width c.lengths) (take c.count c.events)
