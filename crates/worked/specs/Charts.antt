-- Small charts, each a list of events for each instance.
use Rattle.std.specs.Prelude.{List, [], ◌∷◌}
use Rattle.charts.specs.declared.parts.Event.{Event}
use Rattle.charts.specs.Events.{event, output, input, action, environment}

-- a log sends a text to the bus, which takes it and then the siren's ring; the siren rings and sounds
abbrev pub late : List (List Event)
late =
    (event output 1 0 ∷ [])
    ∷ (event input 0 0 ∷ event input 2 1 ∷ [])
    ∷ (event output 1 1 ∷ event action environment 0 ∷ [])
    ∷ []

-- two instances that each take the other's message before they send their own
abbrev pub cross : List (List Event)
cross = (event input 1 0 ∷ event output 1 1 ∷ []) ∷ (event input 0 1 ∷ event output 0 0 ∷ []) ∷ []

-- two messages taken in the other order than sent
abbrev pub over : List (List Event)
over = (event output 1 0 ∷ event output 1 1 ∷ []) ∷ (event input 0 1 ∷ event input 0 0 ∷ []) ∷ []

-- one message
abbrev pub hop : List (List Event)
hop = (event output 1 0 ∷ []) ∷ (event input 0 0 ∷ []) ∷ []

-- a log that waits for the first of two instances that each take the other's message before they send their own
abbrev pub behind : List (List Event)
behind =
    (event input 1 2 ∷ [])
    ∷ (event input 2 0 ∷ event output 2 1 ∷ event output 0 2 ∷ [])
    ∷ (event input 1 1 ∷ event output 1 0 ∷ [])
    ∷ []
