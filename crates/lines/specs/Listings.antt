-- What a listing holds.
use Rattle.std.specs.Prelude.{◌≡◌, ℕ, Bool, true, false, ◌&&◌, List, length, take, nat_le, Some, None, Option}
use Rattle.charts.specs.declared.parts.Event.{Event}
use Rattle.texts.specs.declared.rows.Name.{Name}
use Rattle.texts.specs.declared.reading.Reading.{Reading}
use Rattle.lines.specs.declared.listing.Listing.{Listing}
use Rattle.lines.specs.Names.{are_names}

-- the tables have the rows that the reading counts, and the rows of names stand in its text
abbrev pub has_rows : Reading → List ℕ → List Event → List Name → List Name → List Name → Bool
has_rows r lengths events instances messages actions =
    nat_le r.instances (length lengths) && nat_le r.events (length events)
    && are_names (length r.text.now) r.instances instances
    && are_names (length r.text.now) r.messages messages
    && are_names (length r.text.now) r.actions actions

-- the listing is of the rows in use
pub record HoldsRows (r : Reading) (lengths : List ℕ) (events : List Event) (instances messages actions : List Name) (l : Listing) : Type 0 where
  pub reading : l.reading ≡ r
  pub lengths_used : l.table.lengths.now ≡ take r.instances lengths
  pub events_used : l.table.events.now ≡ take r.events events
  pub instances_used : l.instances.now ≡ take r.instances instances
  pub messages_used : l.messages.now ≡ take r.messages messages
  pub actions_used : l.actions.now ≡ take r.actions actions

-- a listing of the rows in use, exactly where the tables have them
abbrev pub ListsReading : Reading → List ℕ → List Event → List Name → List Name → List Name → Option Listing → Type 0
ListsReading r lengths events instances messages actions (Some l) =
    (has_rows r lengths events instances messages actions ≡ true) × HoldsRows r lengths events instances messages actions l
ListsReading r lengths events instances messages actions None = has_rows r lengths events instances messages actions ≡ false
