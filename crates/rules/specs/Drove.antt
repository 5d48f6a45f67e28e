-- What a drive leaves behind.
use Rattle.std.specs.Prelude.{◌≡◌, ℕ, Bool, List, ◌++◌, length, take, drop, Some, None, Option, MatchOption}
use Rattle.charts.specs.declared.parts.Event.{Event}
use Rattle.copies.specs.declared.parts.Slot.{Slot}
use Rattle.copies.specs.Slots.{slot_at}
use Rattle.orders.specs.Driving.{lowest, moved_by}
use Rattle.rules.specs.declared.row.Row.{Row}
use Rattle.rules.specs.declared.steps.Steps.{Steps}
use Rattle.rules.specs.Held.{some_below}
use Rattle.rules.specs.Places.{place_of}

-- no chart has more events, so a drive of so many steps ends only where none is left
unfoldable pub most_steps : ℕ
most_steps = 4096

-- the steps of w were made and written: the buffer begins with them and keeps its other bytes
pub record Wrote (w : List ℕ) (before after : List Row) (out out' : List ℕ) : Type 0 where
  pub places : (j : ℕ) → place_of after j ≡ moved_by (place_of before) w j
  pub bytes : out' ≡ w ++ drop (length w) out

-- the instances that stepped, in turn
abbrev pub steps_in : Steps → List ℕ
steps_in s = take s.count s.bytes

-- the lowest instance that passes the test, with its next event at the positions p; none where none does
abbrev pub LowestSlot : List (List Event) → (ℕ → ℕ) → (ℕ → Bool) → Option (ℕ × Slot) → Type 0
LowestSlot L p test r =
    MatchOption r (None ≡ some_below (length L) (lowest test (length L)))
    (λ x. (Some x.0 ≡ some_below (length L) (lowest test (length L))) × (slot_at L x.0 (p x.0) ≡ Some x.1))
