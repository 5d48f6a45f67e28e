-- What each call is to answer after a history.
use Rattle.std.specs.Prelude.{◌≡◌, ℕ, List, Some, Ok, Err, Option, Result}
use Rattle.charts.specs.declared.parts.Event.{Event}
use Rattle.charts.specs.declared.faults.Fault.{Fault}
use Rattle.media.specs.Carry.{Carry}
use Rattle.runs.specs.declared.parts.Refusal.{Refusal}
use Rattle.runs.specs.declared.parts.Drove.{Drove}
use Rattle.runs.specs.declared.parts.Verdict.{Verdict}
use Rattle.runs.specs.declared.calls.Call.{Call}
use Rattle.runs.specs.declared.calls.Call.TheVariants.{Step, Drive, Restart, Judge, Latest}
use Rattle.runs.specs.declared.calls.Answer.{Answer}
use Rattle.runs.specs.declared.calls.Answer.TheVariants.{Stepped, Driven, Restarted, Judged, Place, Refused}
use Rattle.runs.specs.Tells.{Tells, RefusalKeeps}
use Rattle.runs.specs.Steps.{StepAnswers}
use Rattle.runs.specs.Drives.{DriveAnswers}
use Rattle.runs.specs.Verdicts.{JudgeAnswers}
use Rattle.runs.specs.Latests.{LatestAnswers}

-- the answer that a result is noted as
abbrev pub noted : {A : Type 0} → (A → Answer) → Result A Refusal → Answer
noted f (Ok a) = f a
noted f (Err r) = Refused r

-- a call's answer a, with what its buffer held and then holds; only drives and verdicts write
abbrev pub Answers : Option Fault → Carry → List (List Event) → List ℕ → Call → List ℕ → Option Answer → List ℕ → Type 0
Answers t M L h (Step i) out a out' = (r : Result Event Refusal) × (a ≡ Some (noted Stepped r)) × Tells t (StepAnswers M L h i) r × (out' ≡ out)
Answers t M L h (Drive n) out a out' =
    (r : Result Drove Refusal) × (a ≡ Some (noted Driven r)) × Tells t (λ (x : Result Drove Refusal). DriveAnswers M L h n out x out') r × RefusalKeeps r out out'
Answers t M L h Restart out a out' = (r : Result (Unit {0}) Refusal) × (a ≡ Some (noted (λ _. Restarted) r)) × Tells t (λ x. x ≡ Ok tt) r × (out' ≡ out)
Answers t M L h Judge out a out' =
    (r : Result Verdict Refusal) × (a ≡ Some (noted Judged r)) × Tells t (λ (x : Result Verdict Refusal). JudgeAnswers M L h out x out') r × RefusalKeeps r out out'
Answers t M L h (Latest i k) out a out' = (r : Result ℕ Refusal) × (a ≡ Some (noted Place r)) × Tells t (LatestAnswers M L h i k) r × (out' ≡ out)
