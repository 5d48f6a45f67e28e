-- What it is for one process to follow another, and processes without steps or without an end.
use Rattle.std.proofs.Common.{◌≡◌, refl}
use Rattle.process.specs.Actions.{Action}
use Rattle.process.specs.Processes.{Process, ε, δ, act, ◌·◌, ◌⌊◌, √}
use Rattle.process.specs.Equations.{◌≈◌}
use Rattle.process.specs.Rules.{Ends, both_end}
use Rattle.process.specs.Rules.{Step, atom, first_steps, second_steps}

-- y ends where x does
abbrev pub EndsToo : Process → Process → Type 0
EndsToo x y = Ends x → Ends y

-- y makes every step that x makes, to a derivably equal process
abbrev pub StepsToo : Process → Process → Type 0
StepsToo x y = (a : Action) (z : Process) → Step x a z → (w : Process) × Step y a w × (z ≈ w)

-- both
pub record Follows (x y : Process) : Type 0 where
  pub ends : Ends x → Ends y
  pub steps : (a : Action) (z : Process) → Step x a z → (w : Process) × Step y a w × (z ≈ w)

-- each follows the other
abbrev pub Alike : Process → Process → Type 0
Alike x y = Follows x y × Follows y x

-- what has no steps, or no end
pub no_step_ε : (a : Action) (z : Process) → Step ε a z → ⊥
no_step_ε a z s = elim s [ ]

pub no_step_δ : (a : Action) (z : Process) → Step δ a z → ⊥
no_step_δ a z s = elim s [ ]

pub no_step_√ : (x : Process) (a : Action) (z : Process) → Step (√ x) a z → ⊥
no_step_√ x a z s = elim s [ ]

pub no_end_δ : Ends δ → ⊥
no_end_δ e = elim e [ ]

pub no_end_act : (a : Action) → Ends (act a) → ⊥
no_end_act a e = elim e [ ]

pub no_end_⌊ : (x y : Process) → Ends (x ⌊ y) → ⊥
no_end_⌊ x y e = elim e [ ]

-- an action before a process does not end, and its one step is the action
pub no_end_prefix : (a : Action) (x : Process) → Ends (act a · x) → ⊥
no_end_prefix a x (both_end e f) = no_end_act a e

pub prefix_step : (a : Action) (x : Process) (b : Action) (z : Process) → Step (act a · x) b z → (b ≡ a) × (z ≡ ε · x)
prefix_step a x b z (first_steps atom) = (refl, refl)
prefix_step a x b z (second_steps e s) = absurd (no_end_act a e)

-- a process without steps
pub quiet : (x y : Process) → EndsToo x y → ((a : Action) (z : Process) → Step x a z → ⊥) → Follows x y
quiet x y e n = record { ends = e; steps = λ a z s. absurd (n a z s) }

-- a process without an end
pub endless : (x y : Process) → (Ends x → ⊥) → StepsToo x y → Follows x y
endless x y n s = record { ends = λ e. absurd (n e); steps = s }

pub nothing : (x : Process) → Follows δ x
nothing x = record { ends = λ e. absurd (no_end_δ e); steps = λ a z s. absurd (no_step_δ a z s) }
