-- What a table's text says: lengths on the first line, and then an event on each line that is not empty.
use Rattle.std.specs.Prelude.{◌≡◌, ℕ, ◌+◌, ◌⊎◌, List, [], ◌∷◌, Some, None, Ok, vec_items, Option, Result}
use Rattle.std.specs.Option.{ok_or}
use Rattle.charts.specs.declared.parts.Event.{Event}
use Rattle.charts.specs.Events.{event}
use Rattle.tabletexts.specs.declared.parts.TableText.{TableText}
use Rattle.tabletexts.specs.Numeral.{numeral, up_to}
use Rattle.tabletexts.specs.Outcome.{then}
use Rattle.tabletexts.specs.Pieces.{pieces}

-- the lines of a text: the pieces between its line feeds
abbrev pub lines : List ℕ → List (List ℕ)
lines text = pieces 10 text

-- the first line of a text, and the text behind it, which is empty where no line feed ends the line
abbrev pub FirstLine : List ℕ → List ℕ → List ℕ → Type 0
FirstLine text line rest = (lines text ≡ line ∷ lines rest) ⊎ ((lines text ≡ line ∷ []) × (rest ≡ []))

-- the fields of a line: the pieces between its spaces
abbrev pub fields : List ℕ → List (List ℕ)
fields line = pieces 32 line

-- the number in a field, if it is at most m
abbrev pub number_in : ℕ → List ℕ → Option ℕ
number_in m bs = up_to m (numeral bs)

-- the lengths in the fields of the first line
abbrev pub lengths_in : List (List ℕ) → Result (List ℕ) ℕ
lengths_in [] = Ok []
lengths_in (f ∷ fs) = then ◌∷◌ (ok_or (number_in 65535 f) 1) (lengths_in fs)

-- the lengths on the first line, which may be empty
abbrev pub lengths_on : List ℕ → Result (List ℕ) ℕ
lengths_on [] = Ok []
lengths_on (b ∷ bs) = lengths_in (fields (b ∷ bs))

-- an event by its three numbers
abbrev pub event_by : Option ℕ → Option ℕ → Option ℕ → Option Event
event_by None p n = None
event_by (Some k) None n = None
event_by (Some k) (Some p) None = None
event_by (Some k) (Some p) (Some n) = Some (event k p n)

-- the event in exactly three fields
abbrev pub event_in : List (List ℕ) → Option Event
event_in [] = None
event_in (k ∷ []) = None
event_in (k ∷ p ∷ []) = None
event_in (k ∷ p ∷ n ∷ []) = event_by (number_in 255 k) (number_in 255 p) (number_in 65535 n)
event_in (k ∷ p ∷ n ∷ f ∷ fs) = None

-- the event on a line
abbrev pub event_on : List ℕ → Option Event
event_on line = event_in (fields line)

-- the events on the lines, the first of which has the number n; empty lines are passed over
abbrev pub events_from : ℕ → List (List ℕ) → Result (List Event) ℕ
events_from n [] = Ok []
events_from n ([] ∷ ls) = events_from (n + 1) ls
events_from n ((b ∷ bs) ∷ ls) = then ◌∷◌ (ok_or (event_on (b ∷ bs)) n) (events_from (n + 1) ls)

pub record Table : Type 0 where
  pub lengths : List ℕ
  pub events : List Event

-- the lengths ns and the events es
abbrev pub table : List ℕ → List Event → Table
table ns es = record { lengths = ns; events = es }

-- the table on the lines
abbrev pub table_on : List (List ℕ) → Result Table ℕ
table_on [] = Ok (table [] [])
table_on (l ∷ ls) = then table (lengths_on l) (events_from 2 ls)

-- the table that a text says, or the number of its first line that cannot be read
abbrev pub reading : List ℕ → Result Table ℕ
reading text = table_on (lines text)

-- the table that a read text holds
abbrev pub held : TableText → Table
held t = table (vec_items t.lengths) (vec_items t.events)
