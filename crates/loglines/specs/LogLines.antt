-- The line of what a log is.
use Rattle.std.specs.Prelude.{ℕ, List, ◌∷◌, codes, decimal, map, Ok, Err, Result}
use Rattle.charts.specs.Faults.{fault_text}
use Rattle.charts.specs.Texts.{spaced}
use Rattle.logs.specs.declared.parts.Verdict.{Verdict}
use Rattle.logs.specs.declared.parts.Verdict.TheVariants.{Full, Part}
use Rattle.logs.specs.declared.parts.Refusal.{Refusal}
use Rattle.logs.specs.declared.parts.Refusal.TheVariants.{Spoiled, Record}
use Rattle.logs.specs.Causes.{number_of, waited_for}

-- the verdict; or the chart's fault; or the number of the cause, the record's index, and the instance waited for where there is one
abbrev pub log_line : Result Verdict Refusal → List ℕ
log_line (Ok Full) = codes "full"
log_line (Ok Part) = codes "part"
log_line (Err (Spoiled f)) = fault_text f
log_line (Err (Record n c)) = spaced (codes "refused" ∷ map decimal (number_of c ∷ n ∷ waited_for c))
