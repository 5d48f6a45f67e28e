-- The refusals by their numbers.
use Rattle.std.specs.Prelude.{ℕ, List, [], ◌∷◌}
use Rattle.runs.specs.declared.parts.Refusal.{Refusal}
use Rattle.runs.specs.declared.parts.Refusal.TheVariants.{Spoiled, NoInstance, NothingLeft, MustWait, ShortBuffer, NoEvent, HasRun, NoFullOrder}

-- what a refusal tells: its number, and the values that go with it
abbrev pub told : Refusal → List ℕ
told (Spoiled f) = f.number ∷ f.instance ∷ f.event ∷ f.layer ∷ []
told NoInstance = 41 ∷ []
told NothingLeft = 42 ∷ []
told (MustWait j) = 43 ∷ j ∷ []
told ShortBuffer = 44 ∷ []
told NoEvent = 45 ∷ []
told HasRun = 46 ∷ []
told NoFullOrder = 47 ∷ []
