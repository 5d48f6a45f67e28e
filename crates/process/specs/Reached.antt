-- What is left of a chart after a history: the process that the positions and the messages on the way give.
use Rattle.std.specs.Prelude.{◌≡◌, ℕ, suc, true, List, [], ◌∷◌, drop}
use Rattle.charts.specs.declared.parts.Event.{Event}
use Rattle.orders.specs.Histories.{pos}
use Rattle.process.specs.Processes.{Messages, Process, filter}
use Rattle.process.specs.Equations.{◌≈◌}
use Rattle.process.specs.ChartProcess.{merge}
use Rattle.process.specs.OnTheWay.{OnTheWay}

-- of the lists, the first of which is that of instance i, the events that have not run
abbrev pub left_from : List ℕ → ℕ → List (List Event) → List (List Event)
left_from h i [] = []
left_from h i (es ∷ K) = drop (pos h i) es ∷ left_from h (suc i) K

-- the events of each instance that have not run
abbrev pub left : List (List Event) → List ℕ → List (List Event)
left L h = left_from h 0 L

-- p is what the positions and the messages on the way give: the state operator over the merge of what is left,
-- with a set that has exactly the messages that are on the way
pub record Reached (L : List (List Event)) (h : List ℕ) (p : Process) : Type 0 where
  pub set : Messages
  pub only : (m : ℕ) → set m ≡ true → OnTheWay L h m
  pub every : (m : ℕ) → OnTheWay L h m → set m ≡ true
  pub equal : p ≈ filter set (merge 0 (left L h))
