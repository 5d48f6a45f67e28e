-- A run's history, made from its chart, its medium and the calls' arguments alone.
use Rattle.std.specs.Prelude.{◌≡◌, ℕ, ◌<◌, ◌≤◌, ◌⊎◌, List, [], ◌∷◌, ◌++◌, Some, None, Option}
use Rattle.charts.specs.declared.parts.Event.{Event}
use Rattle.charts.specs.declared.faults.Fault.{Fault}
use Rattle.media.specs.Carry.{Carry}
use Rattle.orders.specs.May.{May}
use Rattle.orders.specs.Drives.{Drives}
use Rattle.runs.specs.declared.calls.Call.{Call}
use Rattle.runs.specs.declared.calls.Call.TheVariants.{Step, Drive, Restart, Judge, Latest}

-- the history g after a call with a buffer of this length, made after h: a step that may run adds its instance, a drive with room adds what it makes,
-- a restart empties it, every other call leaves it, and so does every call on a spoiled chart
abbrev pub After : Option Fault → Carry → List (List Event) → List ℕ → Call → ℕ → List ℕ → Type 0
After (Some f) M L h call room g = g ≡ h
After None M L h (Step i) room g = (May M L h i × (g ≡ h ++ (i ∷ []))) ⊎ ((May M L h i → ⊥) × (g ≡ h))
After None M L h (Drive n) room g = ((n ≤ room) × ((w : List ℕ) × Drives M L h n w × (g ≡ h ++ w))) ⊎ ((room < n) × (g ≡ h))
After None M L h Restart room g = g ≡ []
After None M L h Judge room g = g ≡ h
After None M L h (Latest i k) room g = g ≡ h
