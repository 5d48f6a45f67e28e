-- What a join does to a single event.
use Rattle.std.specs.Prelude.{ℕ, ◌+◌, cond, ◌==◌}
use Rattle.charts.specs.declared.parts.Event.{Event}
use Rattle.charts.specs.Events.{event, environment, is_message}

-- a message's number rises by s, an action's stays
abbrev pub risen : ℕ → Event → ℕ
risen s e = cond (is_message e) (e.number + s) e.number

-- an instance goes by another name, the environment stays
abbrev pub named : (ℕ → ℕ) → ℕ → ℕ
named f peer = cond (peer == environment) environment (f peer)

-- the event with its instances renamed by f and its message's number raised by s
abbrev pub moved : (ℕ → ℕ) → ℕ → Event → Event
moved f s e = event e.kind (named f e.peer) (risen s e)
