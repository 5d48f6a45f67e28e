-- The instances of a chart text.
use Rattle.std.specs.Prelude.{List, [], ◌∷◌}
use Rattle.words.specs.Sentences.{Placed}
use Rattle.sentences.specs.Events.{EventWords}
use Rattle.items.specs.Items.{Item, instance_named, event, instance_ends}

-- an instance: its name and its events
pub record InstanceWords : Type 0 where
  pub name : Placed
  pub events : List EventWords

-- the events up to the end of their instance
abbrev pub events_before : List Item → List EventWords
events_before [] = []
events_before (instance_named n ∷ is) = []
events_before (event e ∷ is) = e ∷ events_before is
events_before (instance_ends ∷ is) = []

-- the instances that are named, each with the events up to its end
abbrev pub instances_in : List Item → List InstanceWords
instances_in [] = []
instances_in (instance_named n ∷ is) = record { name = n; events = events_before is } ∷ instances_in is
instances_in (event e ∷ is) = instances_in is
instances_in (instance_ends ∷ is) = instances_in is
