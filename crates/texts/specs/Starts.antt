-- Where the events of a text start.
use Rattle.std.specs.Prelude.{ℕ, zero, suc, List, [], ◌∷◌}
use Rattle.sentences.specs.Events.{EventWords}
use Rattle.items.specs.Items.{Item, instance_named, event, instance_ends}
use Rattle.items.specs.Instances.{InstanceWords}

-- where event k of these starts, 0 where there is none
abbrev pub start_among : ℕ → List EventWords → ℕ
start_among k [] = 0
start_among zero (e ∷ es) = e.start
start_among (suc k) (e ∷ es) = start_among k es

-- where event k of instance i starts, 0 where there is none
abbrev pub start_at : ℕ → ℕ → List InstanceWords → ℕ
start_at i k [] = 0
start_at zero k (n ∷ ns) = start_among k n.events
start_at (suc i) k (n ∷ ns) = start_at i k ns

-- the same among items, where i ends of instances and then k events stand before it
abbrev pub start_in : ℕ → ℕ → List Item → ℕ
start_in i k [] = 0
start_in i k (instance_named n ∷ is) = start_in i k is
start_in zero zero (event e ∷ is) = e.start
start_in zero (suc k) (event e ∷ is) = start_in zero k is
start_in (suc i) k (event e ∷ is) = start_in (suc i) k is
start_in zero k (instance_ends ∷ is) = 0
start_in (suc i) k (instance_ends ∷ is) = start_in i k is
