-- What the passes over a table's events find, and how they answer it.
use Rattle.std.specs.Prelude.{◌≡◌, ℕ, List, length, Some, None, Option, Result, MatchResult}
use Rattle.charts.specs.declared.parts.Event.{Event}
use Rattle.charts.specs.declared.faults.Fault.{Fault}
use Rattle.charts.specs.declared.faults.Rule.{Rule}
use Rattle.charts.specs.Faults.{number_of}
use Rattle.checks.specs.Rules.{well_formed, not_repeated, matched}
use Rattle.checks.specs.Checked.{scan}

-- the first event that is not well formed
abbrev pub misformed : List ℕ → List Event → Option Fault
misformed ns es = scan (well_formed (length ns)) ns 0 es

-- the first event that is the second of its message and kind
abbrev pub repeated : List ℕ → List Event → Option Fault
repeated ns es = scan (not_repeated es) ns 0 es

-- the first event of a message that has no match
abbrev pub unmatched : List ℕ → List Event → Option Fault
unmatched ns es = scan (matched ns es) ns 0 es

-- the error is the fault that there is
abbrev pub Finds : {T : Type 0} → Option Fault → Result T Fault → Type 0
Finds o r = MatchResult r (λ _. o ≡ None) (λ f. o ≡ Some f)

-- the error is the rule that is broken, by its number
abbrev pub Breaks : {T : Type 0} → Option ℕ → Result T Rule → Type 0
Breaks o r = MatchResult r (λ _. o ≡ None) (λ rule. o ≡ Some (number_of rule))

-- each call tells of the event at k the rule that it breaks
abbrev pub Tells : (ℕ → Event → Option ℕ) → (ℕ → Event → Result (Unit {0}) Rule → Type 0) → Type 0
Tells rule post = (k : ℕ) (e : Event) (r : Result (Unit {0}) Rule) → post k e r → Breaks (rule k e) r
