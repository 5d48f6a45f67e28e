-- How large a poll may be.
use Rattle.std.specs.Prelude.{ℕ, Bool, cond, ◌&&◌, List, Some, None, Option, nat_le}
use Rattle.charts.specs.declared.parts.Event.{Event}
use Rattle.charts.specs.declared.faults.Fault.{Fault}
use Rattle.charts.specs.Judged.{unspoiled}
use Rattle.polling.specs.Polling.{polling}

-- at most 31 keypads and 32 rounds
abbrev pub allowed : ℕ → ℕ → Bool
allowed n r = nat_le n 31 && nat_le r 32

-- the fault of a poll that is too large
abbrev pub oversize : Fault
oversize = record { number = 33; instance = 0; event = 0; layer = 2 }

-- the fault of a poll of n keypads and r rounds, or none
abbrev pub trouble_of : ℕ → ℕ → Option Fault
trouble_of n r = cond (allowed n r) None (Some oversize)

-- the lists of a poll of n keypads and r rounds, none where it is too large
abbrev pub lists_of : ℕ → ℕ → List (List Event)
lists_of n r = unspoiled (trouble_of n r) (polling n r)
