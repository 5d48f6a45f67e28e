-- When a table is a sound chart.
use Rattle.std.specs.Prelude.{◌≡◌, ℕ, List, length, sum}
use Rattle.charts.specs.declared.parts.Event.{Event}
use Rattle.charts.specs.Sound.{Sound}
use Rattle.checks.specs.Cut.{cut}

-- the lengths sum to the events, and the lists cut from them are sound
pub record SoundTable (ns : List ℕ) (es : List Event) : Type 0 where
  pub even : sum ns ≡ length es
  pub sound : Sound (cut ns es)
