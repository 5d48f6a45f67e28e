-- What an event says.
use Rattle.std.specs.Prelude.{◌≡◌, ℕ, Bool, ◌||◌, ◌⊎◌, ◌==◌}
use Rattle.charts.specs.declared.parts.Event.{Event}

-- the three kinds of an event
abbrev pub output : ℕ
output = 1

abbrev pub input : ℕ
input = 2

abbrev pub action : ℕ
action = 3

-- the peer that stands for the environment; an action has it too
abbrev pub environment : ℕ
environment = 255

-- an event by its kind, its peer and the number of its message or action
abbrev pub event : ℕ → ℕ → ℕ → Event
event kind peer number = record { kind = kind; peer = peer; number = number }

-- what a chart answers outside its lists
abbrev pub no_event : Event
no_event = event 0 0 0

-- the event sends or receives a message
abbrev pub Message : Event → Type 0
Message e = (e.kind ≡ output) ⊎ (e.kind ≡ input)

-- the same, as a test
abbrev pub is_message : Event → Bool
is_message e = e.kind == output || e.kind == input
