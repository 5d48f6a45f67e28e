-- What a board holds.
use Rattle.std.specs.Prelude.{ℕ, List, length, Option}
use Rattle.charts.specs.declared.parts.Event.{Event}
use Rattle.copies.specs.Kept.{kept}
use Rattle.media.specs.Carry.{Carry}
use Rattle.orders.specs.Driving.{driven}
use Rattle.rules.specs.declared.board.Board.{Board}
use Rattle.rules.specs.declared.held.Held.{Held}
use Rattle.rules.specs.Held.{held_now}
use Rattle.rules.specs.Places.{place_of}

-- the lists of its chart
abbrev pub lists_of : Board → List (List Event)
lists_of b = kept b.copy

-- the position of each instance
abbrev pub positions : Board → ℕ → ℕ
positions b = place_of b.rows.table

-- the first n steps of a drive from it that never makes the event that is held
abbrev pub drive_of : Carry → Board → Option Held → ℕ → List ℕ
drive_of M b held n = driven (held_now M (lists_of b) held) (length (lists_of b)) n (positions b)
