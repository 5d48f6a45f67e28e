-- What is told of a chart text that is refused.
use Rattle.std.specs.Prelude.{ℕ, List, [], ◌∷◌, codes, decimal}
use Rattle.charts.specs.Texts.{spaced}
use Rattle.words.specs.declared.faults.Fault.{Fault}
use Rattle.words.specs.Faults.{number_of}

-- the number of the cause, and the byte of the text
abbrev pub refusal_text : Fault → List ℕ
refusal_text f = spaced (codes "refused" ∷ decimal (number_of f.cause) ∷ codes "at" ∷ decimal f.byte ∷ [])
