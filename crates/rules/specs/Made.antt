-- How many steps were made.
use Rattle.std.specs.Prelude.{ℕ, zero, suc, ◌+◌, List, length}
use Rattle.charts.specs.declared.parts.Event.{Event}

-- the positions of the first n instances together
abbrev pub sum_below : (ℕ → ℕ) → ℕ → ℕ
sum_below p zero = 0
sum_below p (suc n) = sum_below p n + p n

-- as many steps were made as the positions of the chart's instances come to
abbrev pub steps_made : List (List Event) → (ℕ → ℕ) → ℕ
steps_made L p = sum_below p (length L)
