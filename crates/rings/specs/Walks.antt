-- The walk along the waits at any positions.
use Rattle.std.specs.Prelude.{ℕ, zero, suc, cond, List, [], ◌∷◌, ◌++◌, length, nat_lt}
use Rattle.charts.specs.declared.parts.Event.{Event}
use Rattle.orders.specs.Deciding.{unfinished, waits_now}
use Rattle.orders.specs.Driving.{lowest}
use Rattle.orders.specs.Walking.{among, since}

-- what instance i waits for, itself where it has finished
abbrev pub waits_on : List (List Event) → (ℕ → ℕ) → ℕ → ℕ
waits_on L p i = cond (unfinished L p i) (waits_now L p i) i

-- at most n steps from x on, those before it being met already; from the first one met twice on, and nothing where the walk comes to one that is not below the width
abbrev pub walked_within : (ℕ → ℕ) → ℕ → ℕ → List ℕ → ℕ → List ℕ
walked_within next width zero met x = []
walked_within next width (suc n) met x =
    cond (nat_lt x width) (cond (among x met) (since x met) (walked_within next width n (met ++ (x ∷ [])) (next x))) []

-- what the waits at the positions p come round to from instance x on
abbrev pub walk_from : List (List Event) → (ℕ → ℕ) → ℕ → List ℕ
walk_from L p x = walked_within (waits_on L p) (length L) (suc (length L)) [] x

-- and from the lowest unfinished instance on
abbrev pub ring_of : List (List Event) → (ℕ → ℕ) → List ℕ
ring_of L p = walk_from L p (lowest (unfinished L p) (length L))
