-- The names of a text, by what they are of.
use Rattle.std.specs.Prelude.{◌≡◌, ℕ, ◌<◌, ◌≤◌, ◌⊎◌, Bool, true, false, List, [], map, length, filter, not, Ok, Err, Result}
use Rattle.charts.specs.declared.kinds.Kind.{Kind}
use Rattle.charts.specs.declared.kinds.Kind.TheVariants.{Output, Input, Action}
use Rattle.words.specs.declared.faults.Cause.TheVariants.{ShortTable}
use Rattle.words.specs.declared.faults.Fault.{Fault}
use Rattle.words.specs.Sentences.{Placed}
use Rattle.words.specs.Reading.{placed}
use Rattle.sentences.specs.Wants.{at_byte}
use Rattle.sentences.specs.Events.{EventWords}
use Rattle.items.specs.Items.{Item}
use Rattle.items.specs.declared.parts.Item.{Item as Read}
use Rattle.items.specs.declared.parts.Item.TheVariants.{Instance, Event, InstanceEnd, End}
use Rattle.items.specs.Surveys.{names_in}
use Rattle.grammar.specs.Brackets.{events_of}
use Rattle.texts.specs.declared.rows.Name.{Name}
use Rattle.texts.specs.declared.directory.Directory.{Directory}
use Rattle.texts.specs.Numbering.{added, distinct}
use Rattle.texts.specs.Noting.{Indexes, Lists}

-- names of instances, of messages and of actions, each in the order of their numbers
pub record Named : Type 0 where
  pub instances : List Placed
  pub messages : List Placed
  pub actions : List Placed

-- an event of a message, and one that is an action
abbrev pub of_message : Kind → Bool
of_message Output = true
of_message Input = true
of_message Action = false

-- the names of messages in events, and of actions
abbrev pub messages_in : List EventWords → List Placed
messages_in es = map (λ e. e.name) (filter (λ e. of_message e.kind) es)

abbrev pub actions_in : List EventWords → List Placed
actions_in es = map (λ e. e.name) (filter (λ e. not (of_message e.kind)) es)

-- the names of a text by its items
abbrev pub named_in : List Item → Named
named_in is = record { instances = distinct (names_in is); messages = distinct (messages_in (events_of is)); actions = distinct (actions_in (events_of is)) }

-- no names
abbrev pub none_named : Named
none_named = record { instances = []; messages = []; actions = [] }

-- one more name, of an event of this kind
abbrev pub with_event : Kind → Named → Placed → Named
with_event Output s n = record s { messages = added s.messages n }
with_event Input s n = record s { messages = added s.messages n }
with_event Action s n = record s { actions = added s.actions n }

-- the names, and that of an item
abbrev pub with_named : Named → Read → Named
with_named s (Instance w) = record s { instances = added s.instances (placed w) }
with_named s (Event e) = with_event e.kind s (placed e.name)
with_named s InstanceEnd = s
with_named s End = s

-- the indexes are of these names
pub record Knows (d : Directory) (s : Named) : Type 0 where
  pub instances : Indexes d.instances s.instances
  pub messages : Indexes d.messages s.messages
  pub actions : Indexes d.actions s.actions

-- the indexes and the tables are of these names
pub record Holds (d : Directory) (i m a : List Name) (s : Named) : Type 0 where
  pub instances : Lists d.instances i s.instances
  pub messages : Lists d.messages m s.messages
  pub actions : Lists d.actions a s.actions

-- they are at most as many as an index has room for
pub record Few (s : Named) : Type 0 where
  pub instances : length s.instances ≤ 4096
  pub messages : length s.messages ≤ 4096
  pub actions : length s.actions ≤ 4096

-- a table of so many rows is too short for its names
abbrev pub TooShort : ℕ → ℕ → ℕ → Named → Type 0
TooShort i m a s = (i < length s.instances) ⊎ ((m < length s.messages) ⊎ (a < length s.actions))

-- the indexes and the tables are of these names; or a table is too short
abbrev pub NotesNames : Named → ℕ → ℕ → ℕ → Result (Unit {0}) Fault → Directory → List Name → List Name → List Name → Type 0
NotesNames s ri rm ra (Ok u) d i m a = Holds d i m a s
NotesNames s ri rm ra (Err f) d i m a = (f ≡ at_byte ShortTable 0) × TooShort ri rm ra s
