-- The places of a table's messages, as far as the table has been read.
use Rattle.std.specs.Prelude.{◌≡◌, ℕ, cond, List, Some, None, Option, nat_lt}
use Rattle.charts.specs.declared.parts.Event.{Event}
use Rattle.checks.specs.Rules.{first_place}
use Rattle.messages.specs.declared.ends.End.{End}
use Rattle.messages.specs.declared.places.MessagePlaces.{MessagePlaces}
use Rattle.messages.specs.Ends.{kind_of}
use Rattle.messages.specs.Places.{place_of}

-- where the first event of this kind and number stands among the first k, none where there is none
abbrev pub seen : List Event → ℕ → ℕ → ℕ → Option ℕ
seen es k kind m = cond (nat_lt (first_place kind m es) k) (Some (first_place kind m es)) None

-- the places are those among the first k events
abbrev pub Seen : List Event → ℕ → MessagePlaces → Type 0
Seen es k places = (end : End) (m : ℕ) → place_of places end m ≡ seen es k (kind_of end) m
