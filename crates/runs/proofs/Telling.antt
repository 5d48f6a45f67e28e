-- Charts without a fault, and where a run stands.
use Rattle.std.proofs.Common.{◌≡◌, ℕ, List, Some, None, Ok, Option, Result, arith}
use mathlib.Core.Path.{fun_ext}
use Rattle.charts.specs.declared.faults.Fault.{Fault}
use Rattle.orders.specs.Histories.{pos}
use Rattle.rules.specs.declared.row.Row.{Row}
use Rattle.rules.specs.Places.{place_of}
use Rattle.runs.specs.declared.parts.Refusal.{Refusal}
use Rattle.runs.specs.Faults.{checked_fault}
use Rattle.runs.specs.Stands.{Stands}
use Rattle.runs.specs.Tells.{Tells}

-- once the check has passed, the answer is all that is to be told
pub tells_sound : {A : Type 0} (t : Option Fault) (u : Unit {0}) (P : Result A Refusal → Type 0) (r : Result A Refusal) → checked_fault t ≡ Ok u → P r → Tells t P r
tells_sound None u P r e a = a
tells_sound (Some f) u P r e a = absurd (let z : ◌≡◌ {A = ℕ} 0 1 = cc in omega arith)

-- the positions are those of the history
pub standing : (rows : List Row) (h : List ℕ) → Stands rows h → place_of rows ≡ pos h
standing rows h s = fun_ext s
