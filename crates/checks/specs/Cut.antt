-- A table: the lengths, one for each instance, and the events, instance after instance.
use Rattle.std.specs.Prelude.{ℕ, suc, ◌-◌, cond, List, [], ◌∷◌, take, drop, nat_lt}
use Rattle.std.specs.List.{flat_map}
use Rattle.charts.specs.declared.parts.Event.{Event}

-- the lists of the table: each instance has the next so many events
abbrev pub cut : List ℕ → List Event → List (List Event)
cut [] es = []
cut (n ∷ ns) es = take n es ∷ cut ns (drop n es)

-- the instance that has the table's event k
abbrev pub instance_of : List ℕ → ℕ → ℕ
instance_of [] k = 0
instance_of (n ∷ ns) k = cond (nat_lt k n) 0 (suc (instance_of ns (k - n)))

-- the index of the table's event k on its instance
abbrev pub index_of : List ℕ → ℕ → ℕ
index_of [] k = k
index_of (n ∷ ns) k = cond (nat_lt k n) k (index_of ns (k - n))

-- the events of such lists, one list after another
abbrev pub in_one : List (List Event) → List Event
in_one L = flat_map (λ es. es) L
