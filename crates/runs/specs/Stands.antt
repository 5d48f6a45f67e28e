-- Where a run stands.
use Rattle.std.specs.Prelude.{◌≡◌, ℕ, List}
use Rattle.orders.specs.Histories.{pos}
use Rattle.rules.specs.declared.row.Row.{Row}
use Rattle.rules.specs.Places.{place_of}

-- the rows hold the positions of the history h
abbrev pub Stands : List Row → List ℕ → Type 0
Stands rows h = (j : ℕ) → place_of rows j ≡ pos h j
