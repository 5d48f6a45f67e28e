-- The operational rules and the equations agree.
use Rattle.process.specs.Actions.{Action}
use Rattle.process.specs.Processes.{Process, ε, δ, act, ◌⊕◌, ◌·◌}
use Rattle.process.specs.Equations.{◌≈◌, A9, symmetric, transitive}
use Rattle.process.specs.Allowed.{Allows, MayTerminate}
use Rattle.process.specs.Rules.{Ends, empty, left_ends, Step, atom, left_steps, first_steps}
use Rattle.process.specs.Agreement.{Agreement}
use Rattle.process.proofs.Following.{no_end_δ}
use Rattle.process.proofs.Bisimulation.{follows}
use Rattle.process.proofs.Summands.{ends_summand, step_summand}
use Rattle.process.proofs.Deadlocks.{ended_is_empty, stuck_is_deadlock}

-- a derivable step is one by the rules
pub allowed_step : (p q : Process) (a : Action) → Allows p a q → (r : Process) × Step p a r × (r ≈ q)
allowed_step p q a e =
    let f = (follows p (act a · q ⊕ p) e).1 in
    let s = f.steps a (ε · q) (left_steps (first_steps atom)) in
    (s.0, s.1, transitive (symmetric s.2) (A9 q))

pub terminating_ends : (p : Process) → MayTerminate p → Ends p
terminating_ends p e = (follows p (ε ⊕ p) e).1.ends (left_ends empty)

pub agreement : Agreement
agreement =
    record {
      steps_derivable = λ p q a s. step_summand p a q s;
      derivable_steps = allowed_step;
      ends_derivable = ends_summand;
      derivable_ends = terminating_ends;
      equal_steps = λ p q r a e s. (follows p q e).0.steps a r s;
      equal_ends = λ p q e d. (follows p q e).0.ends d;
      ended_is_empty = ended_is_empty;
      stuck_is_deadlock = λ M i K n s. stuck_is_deadlock M i K s n;
      apart = λ e. no_end_δ ((follows ε δ e).0.ends empty);
    }
