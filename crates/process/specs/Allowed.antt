-- What a process allows, by the equations.
use Rattle.std.specs.Prelude.{List, [], ◌∷◌}
use Rattle.process.specs.Actions.{Action}
use Rattle.process.specs.Processes.{Process, ε, act, ◌⊕◌, ◌·◌}
use Rattle.process.specs.Equations.{◌≈◌}

-- p allows action a and goes on as q
abbrev pub Allows : Process → Action → Process → Type 0
Allows p a q = p ≈ act a · q ⊕ p

-- p may terminate
abbrev pub MayTerminate : Process → Type 0
MayTerminate p = p ≈ ε ⊕ p

-- p allows the actions in turn, with some processes in between, and goes on as q
abbrev pub Runs : Process → List Action → Process → Type 0
Runs p [] q = p ≈ q
Runs p (a ∷ t) q = (r : Process) × Allows p a r × Runs r t q
