-- One chart after another.
use Rattle.std.specs.Prelude.{◌≡◌, List, [], ◌∷◌, ◌++◌, map, None, Option}
use Rattle.charts.specs.declared.parts.Event.{Event}
use Rattle.charts.specs.Span.{span}
use Rattle.charts.specs.declared.faults.Fault.{Fault}
use Rattle.joining.specs.Joined.{join_trouble, join_lists, Same, Kept}
use Rattle.joining.specs.Moves.{moved}

-- each instance has its events in the one, then those in the other
abbrev pub append : List (List Event) → List (List Event) → List (List Event)
append [] K = K
append (es ∷ L) [] = es ∷ L
append (es ∷ L) (fs ∷ K) = (es ++ fs) ∷ append L K

-- L's events and then K's, with K's message numbers raised by L's span
abbrev pub after : List (List Event) → List (List Event) → List (List Event)
after L K = append L (map (map (moved (λ i. i) (span L))) K)

-- the fault of two charts so joined
abbrev pub after_trouble : Option Fault → Option Fault → List (List Event) → List (List Event) → Option Fault
after_trouble f g L K = join_trouble 3 f g (after L K)

-- the lists of two charts so joined, none where the join is spoiled
abbrev pub after_lists : Option Fault → Option Fault → List (List Event) → List (List Event) → List (List Event)
after_lists f g L K = join_lists 3 f g (after L K)

-- joined with an empty chart, on either side, a chart keeps its fault and its lists
pub record AfterKeeps (f g : Option Fault) (L K : List (List Event)) : Type 0 where
  pub first_empty : f ≡ None → L ≡ [] → Kept (after_trouble f g L K) g (after_lists f g L K) K
  pub second_empty : g ≡ None → K ≡ [] → Kept (after_trouble f g L K) f (after_lists f g L K) L

-- three charts are spoiled together or have the same lists, whichever two are joined first
abbrev pub AfterRegroups : Option Fault → Option Fault → Option Fault → List (List Event) → List (List Event) → List (List Event) → Type 0
AfterRegroups f g h L K M =
    Same (after_trouble (after_trouble f g L K) h (after_lists f g L K) M) (after_trouble f (after_trouble g h K M) L (after_lists g h K M))
    (after_lists (after_trouble f g L K) h (after_lists f g L K) M) (after_lists f (after_trouble g h K M) L (after_lists g h K M))
