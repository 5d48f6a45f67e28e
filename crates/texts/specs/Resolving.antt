-- Events with numbers for their names.
use Rattle.std.specs.Prelude.{◌≡◌, ℕ, ◌<◌, List, IfSome, Some, None, Option, Ok, Err, Result}
use Rattle.charts.specs.declared.parts.Event.{Event}
use Rattle.charts.specs.declared.peers.Peer.{Peer}
use Rattle.charts.specs.Peers.{byte_of}
use Rattle.words.specs.declared.faults.Cause.TheVariants.{PeerUnknown}
use Rattle.words.specs.declared.faults.Fault.{Fault}
use Rattle.words.specs.declared.parts.Word.{Word}
use Rattle.words.specs.Sentences.{Placed}
use Rattle.sentences.specs.Wants.{at_byte}
use Rattle.sentences.specs.Events.{EventWords, placed_peer}
use Rattle.names.specs.Numbers.{Numbers, number_of}
use Rattle.texts.specs.Directories.{Named}
use Rattle.texts.specs.Drafts.{peer_of, numbered, unknown_in}

-- the numbers fit bytes
abbrev pub AreBytes : Numbers → Type 0
AreBytes numbers = (q : List ℕ) → IfSome (number_of numbers q) (λ n. n < 256)

-- the fault of an unknown peer
abbrev pub IsUnknown : Option Placed → Fault → Type 0
IsUnknown unknown f = (p : Placed) × (unknown ≡ Some p) × (f ≡ at_byte PeerUnknown p.start)

-- the peer, or it is unknown
abbrev pub PeerFound : List Placed → Option Word → Result Peer Fault → Type 0
PeerFound ns w (Ok p) = (unknown_in ns (placed_peer w) ≡ None) × (byte_of p ≡ peer_of ns (placed_peer w))
PeerFound ns w (Err f) = IsUnknown (unknown_in ns (placed_peer w)) f

-- the event with its numbers, or its peer is unknown
abbrev pub Resolves : Named → EventWords → Result Event Fault → Type 0
Resolves s e (Ok row) = (unknown_in s.instances e.peer ≡ None) × (row ≡ numbered s e)
Resolves s e (Err f) = IsUnknown (unknown_in s.instances e.peer) f
