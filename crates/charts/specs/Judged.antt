-- What every chart owes, and what its summary answers.
use Rattle.std.specs.Prelude.{◌≡◌, List, [], length, Some, None, Ok, Err, Option, Result}
use Rattle.charts.specs.declared.parts.Event.{Event}
use Rattle.charts.specs.declared.faults.Fault.{Fault}
use Rattle.charts.specs.declared.parts.Summary.{Summary}
use Rattle.charts.specs.Lists.{size}
use Rattle.charts.specs.Span.{span}
use Rattle.charts.specs.Sound.{Sound}

-- without a fault the lists are sound, with one there are no instances
abbrev pub Judged : Option Fault → List (List Event) → Type 0
Judged None L = Sound L
Judged (Some f) L = L ≡ []

-- the size of the lists, or the fault
abbrev pub summed : Option Fault → List (List Event) → Result Summary Fault
summed None L = Ok (record { width = length L; events = size L; span = span L })
summed (Some f) L = Err f

-- the lists of a chart with this fault, or with none: a spoiled chart has no instances
abbrev pub unspoiled : Option Fault → List (List Event) → List (List Event)
unspoiled None L = L
unspoiled (Some f) L = []
