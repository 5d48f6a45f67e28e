-- The whole report on a chart: lines, each with a line feed behind it.
use Rattle.std.specs.Prelude.{ℕ, suc, List, [], ◌∷◌, ◌++◌, length, Some, None, codes, Option}
use Rattle.charts.specs.declared.parts.Event.{Event}
use Rattle.charts.specs.declared.faults.Fault.{Fault}
use Rattle.charts.specs.Faults.{fault_text}
use Rattle.charts.specs.Lists.{size}
use Rattle.charts.specs.Sizes.{size_text}
use Rattle.charts.specs.Span.{span}
use Rattle.listings.specs.Lines.{event_line}

-- bytes with a line feed behind them
abbrev pub line : List ℕ → List ℕ
line bs = bs ++ (10 ∷ [])

-- the events of instance i, the first of which is event k
abbrev pub event_lines : ℕ → ℕ → List Event → List ℕ
event_lines i k [] = []
event_lines i k (e ∷ es) = line (event_line i k e) ++ event_lines i (suc k) es

-- the events of the instances, the first of which is instance i
abbrev pub instance_lines : ℕ → List (List Event) → List ℕ
instance_lines i [] = []
instance_lines i (es ∷ L) = event_lines i 0 es ++ instance_lines (suc i) L

-- a chart's size, its events and `sound`; or only its fault
abbrev pub report_of : Option Fault → List (List Event) → List ℕ
report_of None L = line (size_text (record { width = length L; events = size L; span = span L })) ++ (instance_lines 0 L ++ line (codes "sound"))
report_of (Some f) L = line (fault_text f)
