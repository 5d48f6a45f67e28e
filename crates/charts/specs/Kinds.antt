-- The bytes and the names of the kinds of an event.
use Rattle.std.specs.Prelude.{◌≡◌, ◌≢◌, ℕ, List, Result, MatchResult, codes}
use Rattle.charts.specs.declared.kinds.Kind.{Kind}
use Rattle.charts.specs.declared.kinds.Kind.TheVariants.{Output, Input, Action}
use Rattle.charts.specs.declared.kinds.UnknownKind.{UnknownKind}
use Rattle.charts.specs.Events.{output, input, action}

-- the byte that stands for a kind
abbrev pub code_of : Kind → ℕ
code_of Output = output
code_of Input = input
code_of Action = action

-- the result is the kind that the byte stands for, or the byte where it stands for none
abbrev pub Decodes : ℕ → Result Kind UnknownKind → Type 0
Decodes code r =
    MatchResult r (λ kind. code ≡ code_of kind)
    (λ e. (e.0 ≡ code) × ((code ≢ output) × ((code ≢ input) × (code ≢ action))))

-- a kind by its name
abbrev pub name_of : Kind → List ℕ
name_of Output = codes "out"
name_of Input = codes "in"
name_of Action = codes "action"
