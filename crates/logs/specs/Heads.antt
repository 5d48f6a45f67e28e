-- The head of a log.
use Rattle.std.specs.Prelude.{◌≡◌, ℕ, List, length, Some, None, Ok, Err, Option, Result}
use Rattle.charts.specs.declared.parts.Event.{Event}
use Rattle.charts.specs.declared.faults.Fault.{Fault}
use Rattle.charts.specs.Lists.{size}
use Rattle.records.specs.declared.parts.Head.{Head}
use Rattle.records.specs.Records.{head_bytes}
use Rattle.records.specs.Reading.{EndsEarly}
use Rattle.logs.specs.declared.parts.Cause.{Cause}
use Rattle.logs.specs.declared.parts.Refusal.{Refusal}
use Rattle.logs.specs.declared.parts.Refusal.TheVariants.{Spoiled, Record}
use Rattle.logs.specs.declared.parts.Waiting.{Waiting}
use Rattle.logs.specs.declared.parts.Following.{Following}
use Rattle.logs.specs.Causes.{number_of}

-- the head of a log of the chart with the lists L
abbrev pub head_of : List (List Event) → Head
head_of L = record { width = length L; events = size L }

-- a follower that has taken the head alone
abbrev pub headed : Following
headed = record { index = 1; entries = 0 }

-- what a waiting follower makes of a head: it takes that of its chart
abbrev pub TakesHead : List (List Event) → Waiting → Head → Result Following (Waiting × Refusal) → Type 0
TakesHead L w x (Ok f) = (x ≡ head_of L) × (f ≡ headed)
TakesHead L w x (Err r) = (c : Cause) × (r ≡ (w, Record 0 c)) × (number_of c ≡ 53) × (x ≡ head_of L → ⊥)

-- the bytes of a head are refused
pub data HeadRefused (L : List (List Event)) (bytes : List ℕ) (c : Cause) : Type 0 where
  -- they end early
  cut_short : number_of c ≡ 51 → EndsEarly bytes → HeadRefused L bytes c
  -- they are no head
  wrong_record : number_of c ≡ 52 → (EndsEarly bytes → ⊥) → ((x : Head) → bytes ≡ head_bytes x → ⊥) → HeadRefused L bytes c
  -- it is the head of a chart of another size
  other_chart : (x : Head) → number_of c ≡ 53 → bytes ≡ head_bytes x → (x ≡ head_of L → ⊥) → HeadRefused L bytes c

-- what a waiting follower answers to the bytes of a record
abbrev pub HeadAnswers : Option Fault → List (List Event) → Waiting → List ℕ → Result Following (Waiting × Refusal) → Type 0
HeadAnswers (Some t) L w bytes r = r ≡ Err (w, Spoiled t)
HeadAnswers None L w bytes (Ok f) = (bytes ≡ head_bytes (head_of L)) × (f ≡ headed)
HeadAnswers None L w bytes (Err r) = (c : Cause) × (r ≡ (w, Record 0 c)) × HeadRefused L bytes c
