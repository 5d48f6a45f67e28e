-- The two events of a message.
use Rattle.std.specs.Prelude.{◌≡◌, ◌≢◌, ℕ, Bool, true, false, Option, MatchOption}
use Rattle.charts.specs.declared.parts.Event.{Event}
use Rattle.charts.specs.Events.{output, input}
use Rattle.messages.specs.declared.ends.End.{End}
use Rattle.messages.specs.declared.ends.End.TheVariants.{Output, Input}

-- the kind of an event that is this end of its message
abbrev pub kind_of : End → ℕ
kind_of Output = output
kind_of Input = input

-- the end that an event is, none where it is no output and no input
abbrev pub IsEnd : Event → Option End → Type 0
IsEnd e r = MatchOption r ((e.kind ≢ output) × (e.kind ≢ input)) (λ end. e.kind ≡ kind_of end)

-- an input for an output, and the reverse
abbrev pub other_end : End → End
other_end Output = Input
other_end Input = Output

-- whether two ends are the same
abbrev pub same_end : End → End → Bool
same_end Output Output = true
same_end Output Input = false
same_end Input Output = false
same_end Input Input = true
