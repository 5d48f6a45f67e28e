-- The lengths and the events of a chart, as they are written item by item.
use Rattle.std.specs.Prelude.{◌≡◌, ℕ, ◌+◌, ◌<◌, cond, List, [], ◌∷◌, ◌++◌, length, Some, None, Option, Ok, Err, Result}
use Rattle.charts.specs.declared.parts.Event.{Event}
use Rattle.charts.specs.declared.kinds.Kind.{Kind}
use Rattle.charts.specs.declared.kinds.Kind.TheVariants.{Output, Input, Action}
use Rattle.charts.specs.Events.{event as event_by, environment, no_event}
use Rattle.charts.specs.Kinds.{code_of}
use Rattle.checks.specs.Choice.{or_else}
use Rattle.words.specs.declared.faults.Cause.TheVariants.{PeerUnknown}
use Rattle.words.specs.declared.faults.Fault.{Fault}
use Rattle.words.specs.Sentences.{Placed}
use Rattle.sentences.specs.Wants.{among, at_byte}
use Rattle.sentences.specs.Events.{EventWords, event_words}
use Rattle.items.specs.Items.{Item, instance_named, event, instance_ends}
use Rattle.items.specs.declared.parts.Item.{Item as Read}
use Rattle.items.specs.declared.parts.Item.TheVariants.{Instance, Event as EventRead, InstanceEnd, End}
use Rattle.texts.specs.declared.filling.Filling.{Filling}
use Rattle.texts.specs.Rows.{padded}
use Rattle.texts.specs.Numbering.{place_of}
use Rattle.texts.specs.Directories.{Named}

-- the byte of a peer: the number of its instance, or that of the environment
abbrev pub peer_of : List Placed → Option Placed → ℕ
peer_of ns None = environment
peer_of ns (Some p) = place_of ns p.bytes

-- the names that an event of a kind is numbered by
abbrev pub names_for : Named → Kind → List Placed
names_for s Output = s.messages
names_for s Input = s.messages
names_for s Action = s.actions

-- an event with numbers for its names
abbrev pub numbered : Named → EventWords → Event
numbered s e = event_by (code_of e.kind) (peer_of s.instances e.peer) (place_of (names_for s e.kind) e.name.bytes)

-- a peer that is none of the instances
abbrev pub unknown_in : List Placed → Option Placed → Option Placed
unknown_in ns None = None
unknown_in ns (Some p) = cond (among ns p.bytes) None (Some p)

-- the first of them in the events
abbrev pub first_unknown : List Placed → List EventWords → Option Placed
first_unknown ns [] = None
first_unknown ns (e ∷ es) = or_else (unknown_in ns e.peer) (first_unknown ns es)

-- how many events each instance has, where the first one has n before these items
abbrev pub lengths_from : ℕ → List Item → List ℕ
lengths_from n [] = []
lengths_from n (instance_named m ∷ is) = lengths_from n is
lengths_from n (event e ∷ is) = lengths_from (n + 1) is
lengths_from n (instance_ends ∷ is) = n ∷ lengths_from 0 is

-- what was written: the lengths of the instances that have ended, the number of events since, and all events
pub record Draft : Type 0 where
  pub lengths : List ℕ
  pub count : ℕ
  pub events : List Event

-- nothing is written yet
abbrev pub no_draft : Draft
no_draft = record { lengths = []; count = 0; events = [] }

-- the tables are of this draft
pub record Written (f : Filling) (lengths : List ℕ) (events : List Event) (d : Draft) : Type 0 where
  pub instances : f.instances ≡ length d.lengths
  pub count : f.count ≡ d.count
  pub number : f.events ≡ length d.events
  pub lengths_are : lengths ≡ padded 0 (length lengths) d.lengths
  pub events_are : events ≡ padded no_event (length events) d.events

-- the draft with one item more
abbrev pub with_read : Named → Draft → Read → Draft
with_read s d (Instance w) = d
with_read s d (EventRead e) = record d { count = d.count + 1; events = d.events ++ (numbered s (event_words e) ∷ []) }
with_read s d InstanceEnd = record d { lengths = d.lengths ++ (d.count ∷ []); count = 0 }
with_read s d End = d

-- the unknown peer of an item
abbrev pub unknown_by : List Placed → Read → Option Placed
unknown_by ns (Instance w) = None
unknown_by ns (EventRead e) = unknown_in ns (event_words e).peer
unknown_by ns InstanceEnd = None
unknown_by ns End = None

-- there is a row for what an item brings
abbrev pub HasRow : Filling → ℕ → ℕ → Read → Type 0
HasRow f lengths events (Instance w) = Unit {0}
HasRow f lengths events (EventRead e) = (f.events < events) × (f.count < 65535)
HasRow f lengths events InstanceEnd = f.instances < lengths
HasRow f lengths events End = Unit {0}

-- the tables are of the draft; or this peer is unknown
abbrev pub Writes : Option Placed → Draft → Result (Unit {0}) Fault → Filling → List ℕ → List Event → Type 0
Writes unknown d (Ok u) f lengths events = (unknown ≡ None) × Written f lengths events d
Writes unknown d (Err e) f lengths events = (p : Placed) × (unknown ≡ Some p) × (e ≡ at_byte PeerUnknown p.start)
