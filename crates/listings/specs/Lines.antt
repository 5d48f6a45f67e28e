-- The lines that tell of a chart's events, and of a text that cannot be read.
use Rattle.std.specs.Prelude.{ℕ, cond, List, [], ◌∷◌, codes, decimal, ◌==◌}
use Rattle.charts.specs.declared.kinds.Kind.TheVariants.{Output, Input, Action}
use Rattle.charts.specs.declared.parts.Event.{Event}
use Rattle.charts.specs.declared.peers.Peer.TheVariants.{Instance, Environment}
use Rattle.charts.specs.Events.{output, input, action, environment}
use Rattle.charts.specs.Kinds.{name_of}
use Rattle.charts.specs.Peers.{peer_text}
use Rattle.charts.specs.Texts.{spaced}

-- the name of the kind that a byte stands for
abbrev pub kind_name : ℕ → List ℕ
kind_name k = cond (k == output) (name_of Output) (cond (k == input) (name_of Input) (cond (k == action) (name_of Action) (codes "none")))

-- the peer that a byte stands for, by its number, or the environment
abbrev pub peer_name : ℕ → List ℕ
peer_name p = cond (p == environment) (peer_text Environment) (peer_text (Instance p))

-- event k of instance i
abbrev pub event_line : ℕ → ℕ → Event → List ℕ
event_line i k e = spaced (decimal i ∷ decimal k ∷ kind_name e.kind ∷ peer_name e.peer ∷ decimal e.number ∷ [])

-- the first line that cannot be read
abbrev pub unreadable_line : ℕ → List ℕ
unreadable_line n = spaced (codes "unreadable" ∷ decimal n ∷ [])
