-- Where the events of a copy stand.
use Rattle.std.specs.Prelude.{◌≡◌, ℕ, ◌+◌, ◌<◌, Bool, not, List, take, is_some, sum, slice_index_or}
use Rattle.charts.specs.declared.parts.Event.{Event}
use Rattle.charts.specs.Events.{no_event}
use Rattle.charts.specs.Lists.{count_of}
use Rattle.checks.specs.Checked.{checked}
use Rattle.copies.specs.declared.parts.Slot.{Slot}
use Rattle.copies.specs.declared.parts.Column.{Column}
use Rattle.copies.specs.Lists.{counts, kept_lists}
use Rattle.copies.specs.Slots.{slot_of}

-- a place that holds no event
abbrev pub no_slot : Slot
no_slot = record { event = no_event; mate = 0; ahead = 0 }

-- a column without events
abbrev pub no_column : Column
no_column = record { start = 0; count = 0 }

-- the place of event k of instance i
abbrev pub place_of : List Column → ℕ → ℕ → ℕ
place_of cs i k = (slice_index_or cs i no_column).start + k

-- the table of these lengths and events breaks no rule
abbrev pub faultless : List ℕ → List Event → Bool
faultless ns es = not (is_some (checked ns es))

-- each of the first so many columns starts where the columns before it end
abbrev pub Placed : ℕ → List Column → Type 0
Placed width cs = (i : ℕ) → i < width → (slice_index_or cs i no_column).start ≡ sum (take i (counts cs))

-- the slot of each event has where the other event of its message stands
abbrev pub Mated : ℕ → List Column → List Slot → Type 0
Mated width cs ss =
    (i k : ℕ) → k < count_of (kept_lists width cs ss) i → (slice_index_or ss (place_of cs i k) no_slot).mate ≡ (slot_of (kept_lists width cs ss) i k).mate

-- and how many messages are ahead of its own
abbrev pub Ranked : ℕ → List Column → List Slot → Type 0
Ranked width cs ss =
    (i k : ℕ) → k < count_of (kept_lists width cs ss) i → (slice_index_or ss (place_of cs i k) no_slot).ahead ≡ (slot_of (kept_lists width cs ss) i k).ahead
