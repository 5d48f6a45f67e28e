-- What a chart text must keep to be a chart.
use Rattle.std.specs.Prelude.{◌≡◌, ℕ, List, Contains, slice_get, Some, None, Option}
use Rattle.charts.specs.Sound.{Sound}
use Rattle.grammar.specs.Texts.{EventText, outputs, inputs, acts, InstanceText, ChartText}
use Rattle.texts.specs.Names.{instance_names}
use Rattle.texts.specs.Charted.{lists_of}

-- the peer that an event names, if any
abbrev pub named_peer : EventText → Option (List ℕ)
named_peer (outputs m p) = p
named_peer (inputs m p) = p
named_peer (acts n) = None

pub record Static (c : ChartText) : Type 0 where
  -- no two instances have one name
  pub names_differ : (i j : ℕ) (m n : InstanceText) → slice_get c.instances i ≡ Some m → slice_get c.instances j ≡ Some n → m.name ≡ n.name → i ≡ j
  -- a peer is named as an instance is
  pub peers_known : (i k : ℕ) (n : InstanceText) (e : EventText) (p : List ℕ) → slice_get c.instances i ≡ Some n → slice_get n.events k ≡ Some e → named_peer e ≡ Some p →
      Contains (instance_names c) p
  -- with numbers for the names it is a sound chart
  pub sound : Sound (lists_of c)
