-- Where the events of messages were noted.
use Rattle.std.specs.Prelude.{◌≡◌, ℕ, ◌<◌, List, length, Some}
use Rattle.charts.specs.declared.parts.Event.{Event}
use Rattle.charts.specs.Lists.{At}
use Rattle.messages.specs.declared.ends.End.{End}
use Rattle.messages.specs.declared.places.MessagePlaces.{MessagePlaces}
use Rattle.messages.specs.Ends.{kind_of}
use Rattle.messages.specs.Places.{place_of}

-- each event of a message on the first i instances has its place noted, its index on its instance
abbrev pub NotedBefore : List (List Event) → ℕ → MessagePlaces → Type 0
NotedBefore L i m = (j l : ℕ) (e : Event) (end : End) → At L j l e → j < i → e.kind ≡ kind_of end → place_of m end e.number ≡ Some l

-- the same of each instance
abbrev pub Noted : List (List Event) → MessagePlaces → Type 0
Noted L m = NotedBefore L (length L) m
