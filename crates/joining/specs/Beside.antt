-- One chart beside another.
use Rattle.std.specs.Prelude.{◌≡◌, ◌+◌, List, [], ◌++◌, map, length, None, Option}
use Rattle.charts.specs.declared.parts.Event.{Event}
use Rattle.charts.specs.Span.{span}
use Rattle.charts.specs.declared.faults.Fault.{Fault}
use Rattle.joining.specs.Joined.{join_trouble, join_lists, Same, Kept}
use Rattle.joining.specs.Moves.{moved}

-- L's instances, then K's, with K's instances and peers raised by L's width and its message numbers by L's span
abbrev pub beside : List (List Event) → List (List Event) → List (List Event)
beside L K = L ++ map (map (moved (λ i. i + length L) (span L))) K

-- the fault of two charts so joined
abbrev pub beside_trouble : Option Fault → Option Fault → List (List Event) → List (List Event) → Option Fault
beside_trouble f g L K = join_trouble 4 f g (beside L K)

-- the lists of two charts so joined, none where the join is spoiled
abbrev pub beside_lists : Option Fault → Option Fault → List (List Event) → List (List Event) → List (List Event)
beside_lists f g L K = join_lists 4 f g (beside L K)

-- joined with an empty chart, on either side, a chart keeps its fault and its lists
pub record BesideKeeps (f g : Option Fault) (L K : List (List Event)) : Type 0 where
  pub left_empty : f ≡ None → L ≡ [] → Kept (beside_trouble f g L K) g (beside_lists f g L K) K
  pub right_empty : g ≡ None → K ≡ [] → Kept (beside_trouble f g L K) f (beside_lists f g L K) L

-- three charts are spoiled together or have the same lists, whichever two are joined first
abbrev pub BesideRegroups : Option Fault → Option Fault → Option Fault → List (List Event) → List (List Event) → List (List Event) → Type 0
BesideRegroups f g h L K M =
    Same (beside_trouble (beside_trouble f g L K) h (beside_lists f g L K) M) (beside_trouble f (beside_trouble g h K M) L (beside_lists g h K M))
    (beside_lists (beside_trouble f g L K) h (beside_lists f g L K) M) (beside_lists f (beside_trouble g h K M) L (beside_lists g h K M))
