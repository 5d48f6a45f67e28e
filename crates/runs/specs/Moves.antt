-- How the positions change with a call.
use Rattle.std.specs.Prelude.{◌≡◌, ℕ, List, take, Ok, Err, Result}
use Rattle.charts.specs.declared.parts.Event.{Event}
use Rattle.orders.specs.Driving.{moved, moved_by}
use Rattle.runs.specs.declared.parts.Refusal.{Refusal}
use Rattle.runs.specs.declared.parts.Drove.{Drove}

-- an accepted step moves its instance by 1, and no other
abbrev pub StepMoves : (ℕ → ℕ) → (ℕ → ℕ) → ℕ → Result Event Refusal → Type 0
StepMoves p q i (Ok e) = (j : ℕ) → q j ≡ moved p i j
StepMoves p q i (Err r) = (j : ℕ) → q j ≡ p j

-- an accepted drive moves each instance as often as it is written
abbrev pub DriveMoves : (ℕ → ℕ) → (ℕ → ℕ) → List ℕ → Result Drove Refusal → Type 0
DriveMoves p q out' (Ok d) = (j : ℕ) → q j ≡ moved_by p (take d.made out') j
DriveMoves p q out' (Err r) = (j : ℕ) → q j ≡ p j

-- an accepted restart sets every position to 0
abbrev pub RestartMoves : (ℕ → ℕ) → (ℕ → ℕ) → Result (Unit {0}) Refusal → Type 0
RestartMoves p q (Ok u) = (j : ℕ) → q j ≡ 0
RestartMoves p q (Err r) = (j : ℕ) → q j ≡ p j
