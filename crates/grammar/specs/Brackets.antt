-- Items in the order of a chart text: each instance begins, has its events, and ends.
use Rattle.std.specs.Prelude.{Bool, true, false, List, [], ◌∷◌}
use Rattle.sentences.specs.Events.{EventWords}
use Rattle.items.specs.Items.{Item, instance_named, event, instance_ends}

-- whether the items, inside an instance or between instances, are those of whole instances
abbrev pub bracketed : Bool → List Item → Bool
bracketed true [] = false
bracketed true (instance_named n ∷ is) = false
bracketed true (event e ∷ is) = bracketed true is
bracketed true (instance_ends ∷ is) = bracketed false is
bracketed false [] = true
bracketed false (instance_named n ∷ is) = bracketed true is
bracketed false (event e ∷ is) = false
bracketed false (instance_ends ∷ is) = false

-- the events in their order
abbrev pub events_of : List Item → List EventWords
events_of [] = []
events_of (instance_named n ∷ is) = events_of is
events_of (event e ∷ is) = e ∷ events_of is
events_of (instance_ends ∷ is) = events_of is
