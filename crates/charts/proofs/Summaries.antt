-- What an answered summary tells of the chart.
use Rattle.std.proofs.Common.{◌≡◌, ℕ, List, length, Some, None, Ok, Option, refl, arith}
use Rattle.charts.specs.declared.parts.Event.{Event}
use Rattle.charts.specs.declared.faults.Fault.{Fault}
use Rattle.charts.specs.declared.parts.Summary.{Summary}
use Rattle.charts.specs.Judged.{summed}
use Rattle.charts.specs.Lists.{size}
use Rattle.charts.specs.Span.{span}

pub record Answered (t : Option Fault) (L : List (List Event)) (s : Summary) : Type 0 where
  pub whole : t ≡ None
  pub width : s.width ≡ length L
  pub events : s.events ≡ size L
  pub span : s.span ≡ span L

pub summed_ok : (t : Option Fault) (L : List (List Event)) (s : Summary) → Ok s ≡ summed t L → Answered t L s
summed_ok None L s e = record { whole = refl; width = cc; events = cc; span = cc }
summed_ok (Some f) L s e = absurd (let z : ◌≡◌ {A = ℕ} 0 1 = cc in omega arith)
