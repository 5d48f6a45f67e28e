-- The line of a chart's size.
use Rattle.std.specs.Prelude.{ℕ, List, [], ◌∷◌, codes, decimal}
use Rattle.charts.specs.declared.parts.Summary.{Summary}
use Rattle.charts.specs.Texts.{spaced}

-- the instances, the events and the span
abbrev pub size_text : Summary → List ℕ
size_text s = spaced (codes "chart" ∷ decimal s.width ∷ decimal s.events ∷ decimal s.span ∷ [])
