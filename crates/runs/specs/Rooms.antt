-- Whether a buffer is long enough for judge, as what code can compute.
use Rattle.std.specs.Prelude.{ℕ, ◌+◌, Bool, ◌&&◌, List, nat_le}
use Rattle.charts.specs.declared.parts.Event.{Event}
use Rattle.charts.specs.Lists.{size}
use Rattle.rules.specs.Made.{steps_made}

-- at least 32 bytes, and one for each event left at the positions p
abbrev pub room_for : List (List Event) → (ℕ → ℕ) → ℕ → Bool
room_for L p n = nat_le 32 n && nat_le (size L) (steps_made L p + n)
