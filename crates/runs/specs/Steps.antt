-- What a step answers after a history.
use Rattle.std.specs.Prelude.{◌≡◌, ℕ, ◌<◌, ◌≤◌, List, [], ◌∷◌, length, Ok, Err, Result}
use Rattle.charts.specs.declared.parts.Event.{Event}
use Rattle.charts.specs.Lists.{count_of}
use Rattle.media.specs.Carry.{Carry}
use Rattle.orders.specs.Histories.{pos, Next}
use Rattle.orders.specs.May.{May, Waits}
use Rattle.runs.specs.declared.parts.Refusal.{Refusal}
use Rattle.runs.specs.Refusals.{told}

-- a step of instance i after h, in a chart with the lists L, refused
pub data StepRefused (M : Carry) (L : List (List Event)) (h : List ℕ) (i : ℕ) (r : Refusal) : Type 0 where
  -- there is no such instance
  no_instance : told r ≡ 41 ∷ [] → length L ≤ i → StepRefused M L h i r
  -- it has finished
  nothing_left : told r ≡ 42 ∷ [] → i < length L → count_of L i ≤ pos h i → StepRefused M L h i r
  -- it must wait, for instance j
  must_wait : (j : ℕ) → told r ≡ 43 ∷ j ∷ [] → Waits M L h i j → StepRefused M L h i r

-- the instance's next event, which may run, or a refusal
abbrev pub StepAnswers : Carry → List (List Event) → List ℕ → ℕ → Result Event Refusal → Type 0
StepAnswers M L h i (Ok e) = Next L h i e × May M L h i
StepAnswers M L h i (Err r) = StepRefused M L h i r
