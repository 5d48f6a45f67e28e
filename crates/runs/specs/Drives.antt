-- What a drive answers and writes after a history.
use Rattle.std.specs.Prelude.{◌≡◌, ℕ, ◌<◌, ◌≤◌, List, [], ◌∷◌, ◌++◌, length, drop, Ok, Err, Result}
use Rattle.charts.specs.declared.parts.Event.{Event}
use Rattle.charts.specs.Lists.{count_of}
use Rattle.media.specs.Carry.{Carry}
use Rattle.orders.specs.Histories.{pos}
use Rattle.orders.specs.Drives.{Drives}
use Rattle.runs.specs.declared.parts.Refusal.{Refusal}
use Rattle.runs.specs.declared.parts.Ending.{Ending}
use Rattle.runs.specs.declared.parts.Ending.TheVariants.{Finished, Count, Stuck}
use Rattle.runs.specs.declared.parts.Drove.{Drove}
use Rattle.runs.specs.Refusals.{told}

-- every list is done after h
abbrev pub Done : List (List Event) → List ℕ → Type 0
Done L h = (i : ℕ) → count_of L i ≤ pos h i

-- how a drive of n steps ended that made the steps w and led to g
abbrev pub EndsBy : List (List Event) → List ℕ → ℕ → List ℕ → Ending → Type 0
EndsBy L g n w Finished = Done L g
EndsBy L g n w Count = (Done L g → ⊥) × (length w ≡ n)
EndsBy L g n w Stuck = (Done L g → ⊥) × (length w < n)

-- bytes written at the start of a buffer, which keeps its others
abbrev pub Written : List ℕ → List ℕ → List ℕ → Type 0
Written w out out' = out' ≡ w ++ drop (length w) out

-- the steps w that a drive of n makes after h, with their number and how it ended
pub record DroveOn (M : Carry) (L : List (List Event)) (h : List ℕ) (n : ℕ) (out : List ℕ) (d : Drove) (out' w : List ℕ) : Type 0 where
  pub room : n ≤ length out
  pub drives : Drives M L h n w
  pub made : d.made ≡ length w
  pub ending : EndsBy L (h ++ w) n w d.ending
  pub written : Written w out out'

-- a drive refused: the buffer is too short, and stays as it was
pub record DriveRefused (n : ℕ) (out : List ℕ) (r : Refusal) (out' : List ℕ) : Type 0 where
  pub number : told r ≡ 44 ∷ []
  pub short : length out < n
  pub same : out' ≡ out

-- what a drive of n steps after h answers, with what its buffer held and then holds
abbrev pub DriveAnswers : Carry → List (List Event) → List ℕ → ℕ → List ℕ → Result Drove Refusal → List ℕ → Type 0
DriveAnswers M L h n out (Ok d) out' = (w : List ℕ) × DroveOn M L h n out d out' w
DriveAnswers M L h n out (Err r) out' = DriveRefused n out r out'
