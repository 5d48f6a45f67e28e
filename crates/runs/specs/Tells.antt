-- What a call tells of a chart with a fault, or of one with none.
use Rattle.std.specs.Prelude.{◌≡◌, Some, None, Ok, Err, Option, Result}
use Rattle.charts.specs.declared.faults.Fault.{Fault}
use Rattle.runs.specs.declared.parts.Refusal.{Refusal}
use Rattle.runs.specs.declared.parts.Refusal.TheVariants.{Spoiled}

-- every call refuses a spoiled chart by its fault; else the answer is as it should be
abbrev pub Tells : {A : Type 0} → Option Fault → (Result A Refusal → Type 0) → Result A Refusal → Type 0
Tells (Some f) Answers r = r ≡ Err (Spoiled f)
Tells None Answers r = Answers r

-- a refused call leaves what it was handed as it was
abbrev pub RefusalKeeps : {A E B : Type 0} → Result A E → B → B → Type 0
RefusalKeeps (Ok a) before after = Unit {0}
RefusalKeeps (Err r) before after = after ≡ before
