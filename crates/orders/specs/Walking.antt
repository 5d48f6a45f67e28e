-- The walk along the waits as what code can compute.
use Rattle.std.specs.Prelude.{ℕ, zero, suc, Bool, false, cond, ◌||◌, List, [], ◌∷◌, ◌++◌, length, ◌==◌}
use Rattle.charts.specs.declared.parts.Event.{Event}
use Rattle.orders.specs.Deciding.{unfinished, waits_now}
use Rattle.orders.specs.Driving.{lowest}

-- x is one of the list
abbrev pub among : ℕ → List ℕ → Bool
among x [] = false
among x (y ∷ ys) = y == x || among x ys

-- the list from its first x on
abbrev pub since : ℕ → List ℕ → List ℕ
since x [] = []
since x (y ∷ ys) = cond (y == x) (y ∷ ys) (since x ys)

-- at most n steps from x on, those before it being met already; from the first one met twice on
abbrev pub walked : (ℕ → ℕ) → ℕ → List ℕ → ℕ → List ℕ
walked next zero met x = []
walked next (suc n) met x = cond (among x met) (since x met) (walked next n (met ++ (x ∷ [])) (next x))

-- the ring that the waits at the positions p reach from the lowest unfinished instance
abbrev pub ring_at : List (List Event) → (ℕ → ℕ) → List ℕ
ring_at L p = walked (waits_now L p) (suc (length L)) [] (lowest (unfinished L p) (length L))
