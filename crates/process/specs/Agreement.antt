-- The operational rules and the equations say the same.
use Rattle.std.specs.Prelude.{ℕ, List}
use Rattle.charts.specs.declared.parts.Event.{Event}
use Rattle.process.specs.Actions.{Action}
use Rattle.process.specs.Processes.{Messages, Process, ε, δ, filter}
use Rattle.process.specs.Equations.{◌≈◌}
use Rattle.process.specs.Allowed.{Allows, MayTerminate}
use Rattle.process.specs.Rules.{Ends, Step}
use Rattle.process.specs.ChartProcess.{merge}

pub record Agreement : Type 0 where
  -- a step by the rules is derivable
  pub steps_derivable : (p q : Process) (a : Action) → Step p a q → Allows p a q
  -- a derivable step is a step by the rules, to a derivably equal process
  pub derivable_steps : (p q : Process) (a : Action) → Allows p a q → (r : Process) × Step p a r × (r ≈ q)
  -- what ends by the rules may terminate, and the reverse
  pub ends_derivable : (p : Process) → Ends p → MayTerminate p
  pub derivable_ends : (p : Process) → MayTerminate p → Ends p
  -- derivably equal processes make the same steps, to derivably equal processes, and end alike
  pub equal_steps : (p q r : Process) (a : Action) → p ≈ q → Step p a r → (s : Process) × Step q a s × (r ≈ s)
  pub equal_ends : (p q : Process) → p ≈ q → Ends p → Ends q
  -- instances merged under the state operator, with any set: where that ends it is the empty process; where it neither ends nor makes a step it is deadlock
  pub ended_is_empty : (M : Messages) (i : ℕ) (K : List (List Event)) → Ends (filter M (merge i K)) → filter M (merge i K) ≈ ε
  pub stuck_is_deadlock : (M : Messages) (i : ℕ) (K : List (List Event)) → (Ends (filter M (merge i K)) → ⊥) →
      ((a : Action) (q : Process) → Step (filter M (merge i K)) a q → ⊥) → filter M (merge i K) ≈ δ
  -- the equations do not make everything equal: to have ended is not deadlock
  pub apart : ε ≈ δ → ⊥
