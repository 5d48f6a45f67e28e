-- The relations on orders as tests that code can compute.
use Rattle.std.specs.Prelude.{ℕ, Bool, true, not, ◌&&◌, List, [], ◌∷◌, length, ◌==◌}
use Rattle.charts.specs.declared.parts.Event.{Event}
use Rattle.media.specs.Carry.{Carry}
use Rattle.orders.specs.Histories.{pos}
use Rattle.orders.specs.Deciding.{unfinished, may_now_at, waits_now}
use Rattle.orders.specs.Driving.{lowest, moved}

-- each step of w may run where it stands, the first of them at the positions p
abbrev pub order_at : Carry → List (List Event) → (ℕ → ℕ) → List ℕ → Bool
order_at M L p [] = true
order_at M L p (i ∷ w) = may_now_at M L p i && order_at M L (moved p i) w

-- each step of h may run where it stands
abbrev pub is_order : Carry → List (List Event) → List ℕ → Bool
is_order M L h = order_at M L (pos []) h

-- the search below the width for an instance that may run after h finds none
abbrev pub is_ended : Carry → List (List Event) → List ℕ → Bool
is_ended M L h = lowest (may_now_at M L (pos h)) (length L) == length L

-- an order, after which the search below the width for an instance with an event left finds none
abbrev pub is_full : Carry → List (List Event) → List ℕ → Bool
is_full M L h = is_order M L h && lowest (unfinished L (pos h)) (length L) == length L

-- instance i has an event left that may not run after h, and waits_now says that it waits for j
abbrev pub waits_on : Carry → List (List Event) → List ℕ → ℕ → ℕ → Bool
waits_on M L h i j = unfinished L (pos h) i && (not (may_now_at M L (pos h) i) && waits_now L (pos h) i == j)
