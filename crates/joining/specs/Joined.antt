-- The fault and the lists of a chart that is joined from others.
use Rattle.std.specs.Prelude.{◌≡◌, ℕ, Bool, cond, ◌&&◌, List, length, Some, None, Option, nat_le}
use Rattle.charts.specs.declared.parts.Event.{Event}
use Rattle.charts.specs.declared.faults.Fault.{Fault}
use Rattle.charts.specs.Judged.{unspoiled}
use Rattle.charts.specs.Lists.{size}
use Rattle.charts.specs.Span.{span}

-- at most 32 instances and 4,096 events, and a span of at most 4,096
abbrev pub fits : List (List Event) → Bool
fits J = nat_le (length J) 32 && (nat_le (size J) 4096 && nat_le (span J) 4096)

-- the fault of a join, which has no place
abbrev pub join_fault : ℕ → ℕ → Fault
join_fault number layer = record { number = number; instance = 0; event = 0; layer = layer }

-- the first part's fault, then the second's, then 31 where the joined lists pass a limit
abbrev pub join_trouble : ℕ → Option Fault → Option Fault → List (List Event) → Option Fault
join_trouble layer (Some f) g J = Some f
join_trouble layer None (Some g) J = Some g
join_trouble layer None None J = cond (fits J) None (Some (join_fault 31 layer))

-- the joined lists, none where the join is spoiled
abbrev pub join_lists : ℕ → Option Fault → Option Fault → List (List Event) → List (List Event)
join_lists layer f g J = unspoiled (join_trouble layer f g J) J

-- two charts, by their faults and lists, that are spoiled together or have the same lists
pub record Same (f g : Option Fault) (L K : List (List Event)) : Type 0 where
  pub forth : f ≡ None → (g ≡ None) × (K ≡ L)
  pub back : g ≡ None → f ≡ None

-- two charts, by their faults and lists, that are the same
pub record Kept (f g : Option Fault) (L K : List (List Event)) : Type 0 where
  pub fault : f ≡ g
  pub lists : L ≡ K
