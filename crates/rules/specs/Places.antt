-- What the rows of the instances hold.
use Rattle.std.specs.Prelude.{◌≡◌, ℕ, ◌<◌, ◌≤◌, List, [], length, slice_index, slice_index_or}
use Rattle.charts.specs.declared.parts.Event.{Event}
use Rattle.charts.specs.Lists.{count_of}
use Rattle.orders.specs.Passing.{passing}
use Rattle.rules.specs.declared.row.Row.{Row}

-- the row of no instance
abbrev pub no_row : Row
no_row = record { position = 0; sent = [] }

-- the position of instance i
abbrev pub place_of : List Row → ℕ → ℕ
place_of rows i = (slice_index_or rows i no_row).position

-- how many messages are counted on the way from i to j
abbrev pub sent_of : List Row → ℕ → ℕ → ℕ
sent_of rows i j = slice_index (slice_index_or rows i no_row).sent j

-- no instance has stepped past its events
abbrev pub Within : List (List Event) → List Row → Type 0
Within L rows = (i : ℕ) → place_of rows i ≤ count_of L i

-- there is a row for each instance that a chart can have, and in it a count for each
abbrev pub Even : List Row → Type 0
Even rows = (i : ℕ) → i < 32 → length (slice_index_or rows i no_row).sent ≡ 32

-- the counts are the messages on the way to the chart's instances
abbrev pub Tallied : List (List Event) → List Row → Type 0
Tallied L rows = (i j : ℕ) → j < length L → sent_of rows i j ≡ passing L i j (place_of rows i) (place_of rows j)
