-- The check that every call begins with.
use Rattle.std.specs.Prelude.{Some, None, Ok, Err, Option, Result}
use Rattle.charts.specs.declared.faults.Fault.{Fault}
use Rattle.runs.specs.declared.parts.Refusal.{Refusal}
use Rattle.runs.specs.declared.parts.Refusal.TheVariants.{Spoiled}

-- nothing for a chart without a fault, else a refusal by the fault
abbrev pub checked_fault : Option Fault → Result (Unit {0}) Refusal
checked_fault None = Ok tt
checked_fault (Some f) = Err (Spoiled f)
