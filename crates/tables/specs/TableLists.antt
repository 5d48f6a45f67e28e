-- The chart over a table.
use Rattle.std.specs.Prelude.{◌≡◌, ℕ, List, Some, None, Option, refl}
use Rattle.charts.specs.declared.parts.Event.{Event}
use Rattle.charts.specs.declared.faults.Fault.{Fault}
use Rattle.charts.specs.Judged.{Judged, unspoiled}
use Rattle.checks.specs.Cut.{cut}
use Rattle.checks.specs.Checked.{checked}
use Rattle.checks.proofs.Exact.{checked_sound}

-- the lists cut from the table, none where the table breaks a rule
abbrev pub table_lists : List ℕ → List Event → List (List Event)
table_lists ns es = unspoiled (checked ns es) (cut ns es)

judged_at : (ns : List ℕ) (es : List Event) (f : Option Fault) → checked ns es ≡ f → Judged f (unspoiled f (cut ns es))
judged_at ns es None e = (checked_sound ns es e).sound
judged_at ns es (Some f) e = refl

-- a table owes what every chart owes, and gives it
pub table_judged : (ns : List ℕ) (es : List Event) → Judged (checked ns es) (table_lists ns es)
table_judged ns es = judged_at ns es (checked ns es) refl
