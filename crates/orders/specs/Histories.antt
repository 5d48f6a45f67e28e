-- A history: the instances in the order in which they stepped.
use Rattle.std.specs.Prelude.{ℕ, ◌+◌, cond, List, [], ◌∷◌, ◌==◌}
use Rattle.charts.specs.declared.parts.Event.{Event}
use Rattle.charts.specs.Lists.{At}

-- how often instance i is listed: its position; its events below that have run
abbrev pub pos : List ℕ → ℕ → ℕ
pos [] i = 0
pos (x ∷ h) i = cond (x == i) 1 0 + pos h i

-- the next event of instance i after h is e
abbrev pub Next : List (List Event) → List ℕ → ℕ → Event → Type 0
Next L h i e = At L i (pos h i) e
