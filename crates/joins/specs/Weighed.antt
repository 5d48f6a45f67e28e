-- The sizes of two charts, or the first fault; and what fits the limits of a chart.
use Rattle.std.specs.Prelude.{ℕ, ◌≤◌, cond, ◌&&◌, List, length, Some, None, Ok, Err, Option, Result, nat_le}
use Rattle.charts.specs.declared.parts.Event.{Event}
use Rattle.charts.specs.declared.faults.Fault.{Fault}
use Rattle.charts.specs.declared.parts.Summary.{Summary}
use Rattle.charts.specs.Lists.{size}
use Rattle.charts.specs.Span.{span}
use Rattle.joining.specs.Joined.{join_fault}

-- the size of some lists
abbrev pub sized : List (List Event) → Summary
sized L = record { width = length L; events = size L; span = span L }

-- the sizes of both, or the first's fault, or the second's
abbrev pub weighed : Option Fault → Option Fault → List (List Event) → List (List Event) → Result (Summary × Summary) Fault
weighed (Some f) g L K = Err f
weighed None (Some g) L K = Err g
weighed None None L K = Ok (sized L, sized K)

-- a size within the limits of a sound chart
pub record Small (s : Summary) : Type 0 where
  pub width : s.width ≤ 32
  pub events : s.events ≤ 4096
  pub span : s.span ≤ 4096

-- the size, or 31 where it passes a limit
abbrev pub limited_to : ℕ → Summary → Result Summary Fault
limited_to layer s = cond (nat_le s.width 32 && (nat_le s.events 4096 && nat_le s.span 4096)) (Ok s) (Err (join_fault 31 layer))
