-- The numbers of the rules of a chart, and of the layers that find a fault.
use Rattle.std.specs.Prelude.{ℕ, List, [], ◌∷◌, codes, decimal}
use Rattle.charts.specs.declared.faults.Fault.{Fault}
use Rattle.charts.specs.declared.faults.Layer.{Layer}
use Rattle.charts.specs.declared.faults.Rule.{Rule}
use Rattle.charts.specs.declared.faults.Rule.TheVariants.{Lengths, Events, Sum, Kind, Peer, Number, Repeated, Unmatched, Limits, Permutation, Poll}
use Rattle.charts.specs.declared.faults.Layer.TheVariants.{Table, Poll as Polled, After, Beside, Recast}
use Rattle.charts.specs.Texts.{spaced}

-- the number of a rule
abbrev pub number_of : Rule → ℕ
number_of Lengths = 11
number_of Events = 12
number_of Sum = 13
number_of Kind = 14
number_of Peer = 15
number_of Number = 16
number_of Repeated = 17
number_of Unmatched = 18
number_of Limits = 31
number_of Permutation = 32
number_of Poll = 33

-- the number of a layer
abbrev pub layer_of : Layer → ℕ
layer_of Table = 1
layer_of Polled = 2
layer_of After = 3
layer_of Beside = 4
layer_of Recast = 5

-- the line of a fault
abbrev pub fault_text : Fault → List ℕ
fault_text f =
    spaced (codes "spoiled" ∷ decimal f.number ∷ decimal f.instance ∷ decimal f.event ∷ decimal f.layer ∷ [])
