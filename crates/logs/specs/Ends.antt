-- The end of a log.
use Rattle.std.specs.Prelude.{◌≡◌, ℕ, List, Some, None, Ok, Err, Option, Result}
use Rattle.charts.specs.declared.parts.Event.{Event}
use Rattle.charts.specs.declared.faults.Fault.{Fault}
use Rattle.records.specs.declared.parts.End.{End}
use Rattle.records.specs.Records.{end_bytes}
use Rattle.records.specs.Reading.{EndsEarly}
use Rattle.runs.specs.Drives.{Done}
use Rattle.logs.specs.declared.parts.Cause.{Cause}
use Rattle.logs.specs.declared.parts.Refusal.{Refusal}
use Rattle.logs.specs.declared.parts.Refusal.TheVariants.{Spoiled, Record}
use Rattle.logs.specs.declared.parts.Following.{Following}
use Rattle.logs.specs.declared.parts.Closed.{Closed}
use Rattle.logs.specs.declared.parts.Verdict.{Verdict}
use Rattle.logs.specs.declared.parts.Verdict.TheVariants.{Full, Part}
use Rattle.logs.specs.Causes.{number_of}
use Rattle.logs.specs.Followers.{index_after}

-- what a log is whose entries led to h: full where every list is done, else a part
abbrev pub VerdictIs : List (List Event) → List ℕ → Verdict → Type 0
VerdictIs L h Full = Done L h
VerdictIs L h Part = Done L h → ⊥

-- the end of a log with so many entries
abbrev pub end_of : ℕ → End
end_of n = record { count = n }

-- what a follower f makes of an end after h: it takes that of its number of entries
abbrev pub TakesEnd : List (List Event) → List ℕ → Following → End → Result (Closed × Verdict) (Following × Refusal) → Type 0
TakesEnd L h f x (Ok a) = (x ≡ end_of f.entries) × (a.0 ≡ record { index = index_after f.index }) × VerdictIs L h a.1
TakesEnd L h f x (Err r) = (c : Cause) × (r ≡ (f, Record f.index c)) × (number_of c ≡ 55) × (x ≡ end_of f.entries → ⊥)

-- the bytes of an end are refused by a follower of n entries
pub data EndRefused (n : ℕ) (bytes : List ℕ) (c : Cause) : Type 0 where
  -- they end early
  cut_short : number_of c ≡ 51 → EndsEarly bytes → EndRefused n bytes c
  -- they are no end
  wrong_record : number_of c ≡ 52 → (EndsEarly bytes → ⊥) → ((x : End) → bytes ≡ end_bytes x → ⊥) → EndRefused n bytes c
  -- it has another number of entries
  wrong_count : (x : End) → number_of c ≡ 55 → bytes ≡ end_bytes x → (x ≡ end_of n → ⊥) → EndRefused n bytes c

-- what a follower f answers after h to the bytes of a record
abbrev pub EndAnswers : Option Fault → List (List Event) → List ℕ → Following → List ℕ → Result (Closed × Verdict) (Following × Refusal) → Type 0
EndAnswers (Some t) L h f bytes r = r ≡ Err (f, Spoiled t)
EndAnswers None L h f bytes (Ok a) = (bytes ≡ end_bytes (end_of f.entries)) × (a.0 ≡ record { index = index_after f.index }) × VerdictIs L h a.1
EndAnswers None L h f bytes (Err r) = (c : Cause) × (r ≡ (f, Record f.index c)) × EndRefused f.entries bytes c
