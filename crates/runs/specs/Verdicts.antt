-- What judge answers and writes after a history.
use Rattle.std.specs.Prelude.{◌≡◌, ℕ, ◌+◌, ◌≤◌, List, [], ◌∷◌, ◌++◌, length, Ok, Err, Result}
use Rattle.charts.specs.declared.parts.Event.{Event}
use Rattle.charts.specs.Lists.{size}
use Rattle.media.specs.Carry.{Carry}
use Rattle.orders.specs.Orders.{Order, Ended, Full}
use Rattle.orders.specs.Drives.{Lowest}
use Rattle.orders.specs.Rings.{Ring}
use Rattle.runs.specs.declared.parts.Refusal.{Refusal}
use Rattle.runs.specs.declared.parts.Verdict.{Verdict}
use Rattle.runs.specs.declared.parts.Verdict.TheVariants.{Runs, Stuck}
use Rattle.runs.specs.Refusals.{told}
use Rattle.runs.specs.Drives.{Written}

-- the buffer has 32 bytes, and one for each event left after h
pub record JudgeRoom (L : List (List Event)) (h out : List ℕ) : Type 0 where
  pub ring : 32 ≤ length out
  pub order : size L ≤ length h + length out

-- judge refused: the buffer is too short, and stays as it was
pub record JudgeRefused (L : List (List Event)) (h out : List ℕ) (r : Refusal) (out' : List ℕ) : Type 0 where
  pub number : told r ≡ 44 ∷ []
  pub short : JudgeRoom L h out → ⊥
  pub same : out' ≡ out

-- the rest w of a full order that starts with h, lowest first, was written
pub record RunsOn (M : Carry) (L : List (List Event)) (h : List ℕ) (n : ℕ) (out out' w : List ℕ) : Type 0 where
  pub lowest : Lowest M L h w
  pub full : Full M L (h ++ w)
  pub long : n ≡ length w
  pub written : Written w out out'

-- no full order exists; the ring was written, which is the ring at the end that the drive reaches, and at every end that steps after h lead to
pub record StuckBy (M : Carry) (L : List (List Event)) (h : List ℕ) (n : ℕ) (out out' ring : List ℕ) : Type 0 where
  pub never : (f : List ℕ) → Full M L f → ⊥
  pub rest : List ℕ
  pub lowest : Lowest M L h rest
  pub ended : Ended M L (h ++ rest)
  pub ring_there : Ring M L (h ++ rest) ring
  pub ring_everywhere : (v : List ℕ) → Order M L (h ++ v) → Ended M L (h ++ v) → Ring M L (h ++ v) ring
  pub long : n ≡ length ring
  pub written : Written ring out out'

-- what judge says after an order h
abbrev pub Judges : Carry → List (List Event) → List ℕ → List ℕ → Verdict → List ℕ → Type 0
Judges M L h out (Runs n) out' = (w : List ℕ) × RunsOn M L h n out out' w
Judges M L h out (Stuck n) out' = (ring : List ℕ) × StuckBy M L h n out out' ring

-- the number of bytes that a verdict says were written
abbrev pub length_in : Verdict → ℕ
length_in (Runs n) = n
length_in (Stuck n) = n

-- judge answers: there is room, as many bytes were written as it says, and the verdict is right, if h is an order
pub record JudgeAnswered (M : Carry) (L : List (List Event)) (h out : List ℕ) (v : Verdict) (out' : List ℕ) : Type 0 where
  pub room : JudgeRoom L h out
  pub wrote : (w : List ℕ) × (length_in v ≡ length w) × Written w out out'
  pub judges : Order M L h → Judges M L h out v out'

-- what judge answers after h, with what its buffer held and then holds
abbrev pub JudgeAnswers : Carry → List (List Event) → List ℕ → List ℕ → Result Verdict Refusal → List ℕ → Type 0
JudgeAnswers M L h out (Ok v) out' = JudgeAnswered M L h out v out'
JudgeAnswers M L h out (Err r) out' = JudgeRefused L h out r out'
