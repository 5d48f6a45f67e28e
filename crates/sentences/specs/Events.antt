-- Events as a chart text writes them.
use Rattle.std.specs.Prelude.{◌≡◌, ℕ, cond, List, [], ◌∷◌, Some, None, Option, Ok, Err, Result, codes}
use Rattle.std.specs.Str.{bytes_eq}
use Rattle.charts.specs.declared.kinds.Kind.{Kind}
use Rattle.charts.specs.declared.kinds.Kind.TheVariants.{Output, Input, Action}
use Rattle.words.specs.declared.parts.Word.{Word}
use Rattle.words.specs.declared.faults.Cause.TheVariants.{WrongWord}
use Rattle.words.specs.declared.faults.Fault.{Fault}
use Rattle.words.specs.Sentences.{Placed, Sentence}
use Rattle.words.specs.Reading.{placed, others, StandsIn}
use Rattle.sentences.specs.declared.parts.EventText.{EventText}
use Rattle.sentences.specs.Wants.{exactly, name, peer, at_byte, reads}

-- an event: the place of its first word, its kind, the name of its message or action, and the peer's, none for the environment
pub record EventWords : Type 0 where
  pub start : ℕ
  pub kind : Kind
  pub name : Placed
  pub peer : Option Placed

-- the peer of this word
abbrev pub peer_by : Placed → Option Placed
peer_by w = cond (bytes_eq w.bytes (codes "env")) None (Some w)

-- the event that starts at a place, by its kind and the words after its first
abbrev pub event_by : ℕ → Kind → List Placed → EventWords
event_by at k [] = record { start = at; kind = k; name = record { start = 0; bytes = [] }; peer = None }
event_by at k (m ∷ []) = record { start = at; kind = k; name = m; peer = None }
event_by at k (m ∷ preposition ∷ []) = record { start = at; kind = k; name = m; peer = None }
event_by at k (m ∷ preposition ∷ p ∷ ws) = record { start = at; kind = k; name = m; peer = peer_by p }

-- the event of these words, or their fault
abbrev pub if_read : ℕ → Kind → Result (List Placed) Fault → Result EventWords Fault
if_read at k (Ok ws) = Ok (event_by at k ws)
if_read at k (Err f) = Err f

-- the message of an event, `from` or `to`, and its peer
abbrev pub message_in : Placed → Kind → List ℕ → Sentence → Result EventWords Fault
message_in v k preposition s = if_read v.start k (reads (name ∷ exactly preposition ∷ peer ∷ []) s.words s.ending)

-- the kind of an event by its first word
abbrev pub kind_in : List ℕ → Option Kind
kind_in w = cond (bytes_eq w (codes "in")) (Some Input) (cond (bytes_eq w (codes "out")) (Some Output) (cond (bytes_eq w (codes "action")) (Some Action) None))

-- the event of a kind whose first word is v, in the rest of its sentence
abbrev pub event_of_kind : Option Kind → Placed → Sentence → Result EventWords Fault
event_of_kind (Some Input) v s = message_in v Input (codes "from") s
event_of_kind (Some Output) v s = message_in v Output (codes "to") s
event_of_kind (Some Action) v s = if_read v.start Action (reads (name ∷ []) s.words s.ending)
event_of_kind None v s = Err (at_byte WrongWord v.start)

-- the event whose first word is v
abbrev pub event_in : Placed → Sentence → Result EventWords Fault
event_in v s = event_of_kind (kind_in v.bytes) v s

-- a peer with its bytes
abbrev pub placed_peer : Option Word → Option Placed
placed_peer None = None
placed_peer (Some w) = Some (placed w)

-- the event with its bytes
abbrev pub event_words : EventText → EventWords
event_words e = record { start = e.start; kind = e.kind; name = placed e.name; peer = placed_peer e.peer }

-- the event that was read is that of the first sentence, and what is left are the sentences after it; or that has this fault
abbrev pub EventRead : Result EventWords Fault → List Sentence → Result EventText Fault → List Sentence → Type 0
EventRead says before (Ok e) after = (says ≡ Ok (event_words e)) × (after ≡ others before)
EventRead says before (Err f) after = says ≡ Err f

-- a peer's name stands in the text
abbrev pub PeerStandsIn : List ℕ → Option Placed → Type 0
PeerStandsIn text None = Unit {0}
PeerStandsIn text (Some w) = StandsIn text w

-- the names of the event stand in the text
abbrev pub EventStandsIn : List ℕ → EventWords → Type 0
EventStandsIn text e = StandsIn text e.name × PeerStandsIn text e.peer
