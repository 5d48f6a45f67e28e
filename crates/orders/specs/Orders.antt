-- Orders: histories each of whose steps may run.
use Rattle.std.specs.Prelude.{◌≡◌, ℕ, ◌≤◌, List, ◌∷◌, ◌++◌}
use Rattle.charts.specs.declared.parts.Event.{Event}
use Rattle.charts.specs.Lists.{count_of}
use Rattle.media.specs.Carry.{Carry}
use Rattle.orders.specs.Histories.{pos}
use Rattle.orders.specs.May.{May}

-- every step i of h has P after the steps u before it
abbrev pub Steps : (List ℕ → ℕ → Type 0) → List ℕ → Type 0
Steps P h = (u : List ℕ) (i : ℕ) (v : List ℕ) → h ≡ u ++ (i ∷ v) → P u i

-- what can be done after one history can be done after any that has not moved its instance and has moved no other back
abbrev pub Stays : (List ℕ → ℕ → Type 0) → Type 0
Stays P = (h g : List ℕ) (i : ℕ) → ((j : ℕ) → pos h j ≤ pos g j) → pos h i ≡ pos g i → P h i → P g i

-- every step of h may run where it stands
abbrev pub Order : Carry → List (List Event) → List ℕ → Type 0
Order M L h = Steps (May M L) h

-- no instance may run after h
abbrev pub Ended : Carry → List (List Event) → List ℕ → Type 0
Ended M L h = (i : ℕ) → May M L h i → ⊥

-- an order in which every list is done
pub record Full (M : Carry) (L : List (List Event)) (h : List ℕ) : Type 0 where
  pub order : Order M L h
  pub done : (i : ℕ) → pos h i ≡ count_of L i
