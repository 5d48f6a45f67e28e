-- The lengths and the events of a whole text.
use Rattle.std.specs.Prelude.{◌≡◌, ℕ, List, map, None, Ok, Err, Result}
use Rattle.charts.specs.declared.parts.Event.{Event}
use Rattle.charts.specs.Events.{no_event}
use Rattle.words.specs.declared.faults.Fault.{Fault}
use Rattle.items.specs.Items.{Item}
use Rattle.texts.specs.Rows.{padded}
use Rattle.grammar.specs.Brackets.{events_of}
use Rattle.texts.specs.Directories.{Named}
use Rattle.texts.specs.Drafts.{numbered, first_unknown, lengths_from}
use Rattle.texts.specs.Resolving.{IsUnknown}

-- every peer is known, and the tables are of the items; or this is the first unknown peer
abbrev pub Fills : Named → List Item → ℕ → ℕ → Result (Unit {0}) Fault → List ℕ → List Event → Type 0
Fills s is nl ne (Ok u) lengths events =
    (first_unknown s.instances (events_of is) ≡ None) × (lengths ≡ padded 0 nl (lengths_from 0 is)) × (events ≡ padded no_event ne (map (numbered s) (events_of is)))
Fills s is nl ne (Err f) lengths events = IsUnknown (first_unknown s.instances (events_of is)) f
