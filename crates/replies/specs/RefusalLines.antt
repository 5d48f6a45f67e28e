-- The line of a refusal.
use Rattle.std.specs.Prelude.{ℕ, List, ◌∷◌, codes, decimal, map}
use Rattle.charts.specs.Texts.{spaced}
use Rattle.runs.specs.declared.parts.Refusal.{Refusal}
use Rattle.runs.specs.declared.parts.Refusal.TheVariants.{Spoiled}
use Rattle.runs.specs.Refusals.{told}

-- whether the chart is spoiled or only the call refused, in a word
abbrev pub refusal_word : Refusal → List ℕ
refusal_word (Spoiled f) = codes "spoiled"
refusal_word r = codes "refused"

-- the word, and the numbers that the refusal tells
abbrev pub refusal_line : Refusal → List ℕ
refusal_line r = spaced (refusal_word r ∷ map decimal (told r))
