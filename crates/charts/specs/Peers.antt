-- The bytes and the names of peers.
use Rattle.std.specs.Prelude.{◌≡◌, ◌≢◌, ℕ, List, codes, decimal}
use Rattle.charts.specs.declared.peers.Peer.{Peer}
use Rattle.charts.specs.declared.peers.Peer.TheVariants.{Instance, Environment}
use Rattle.charts.specs.Events.{environment}

-- the byte of a peer
abbrev pub byte_of : Peer → ℕ
byte_of (Instance i) = i
byte_of Environment = environment

-- the peer that a byte stands for: the environment by 255, else an instance
abbrev pub Reads : ℕ → Peer → Type 0
Reads byte (Instance i) = (i ≡ byte) × (byte ≢ environment)
Reads byte Environment = byte ≡ environment

-- a peer by its number, or the environment
abbrev pub peer_text : Peer → List ℕ
peer_text (Instance i) = decimal i
peer_text Environment = codes "env"
