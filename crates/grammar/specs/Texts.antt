-- Charts as their texts write them, by names and without places.
use Rattle.std.specs.Prelude.{ℕ, List, Option}

-- an output of a message to a peer, an input of one from a peer, or an action; no peer is the environment
pub data EventText : Type 0 where
  outputs : List ℕ → Option (List ℕ) → EventText
  inputs : List ℕ → Option (List ℕ) → EventText
  acts : List ℕ → EventText

-- an instance: its name and its events
pub record InstanceText : Type 0 where
  pub name : List ℕ
  pub events : List EventText

-- a chart: its name and its instances
pub record ChartText : Type 0 where
  pub title : List ℕ
  pub instances : List InstanceText
