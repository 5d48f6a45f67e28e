-- What is next on an instance after a history.
use Rattle.std.specs.Prelude.{ℕ, ◌≤◌, List, Some, None, Option}
use Rattle.charts.specs.declared.parts.Event.{Event}
use Rattle.charts.specs.Lists.{count_of}
use Rattle.orders.specs.Histories.{pos, Next}

-- its next event, or none where none is left
abbrev pub NextAnswers : List (List Event) → List ℕ → ℕ → Option Event → Type 0
NextAnswers L h i (Some e) = Next L h i e
NextAnswers L h i None = count_of L i ≤ pos h i
