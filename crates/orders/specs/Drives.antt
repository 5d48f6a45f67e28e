-- Driving on: the lowest-numbered step that can be made, again and again.
use Rattle.std.specs.Prelude.{ℕ, ◌<◌, ◌≤◌, List, ◌++◌, length}
use Rattle.charts.specs.declared.parts.Event.{Event}
use Rattle.media.specs.Carry.{Carry}
use Rattle.orders.specs.May.{May}
use Rattle.orders.specs.Orders.{Steps, Ended}

-- instance i can step after h, and no lower-numbered one can
pub record Least (P : List ℕ → ℕ → Type 0) (h : List ℕ) (i : ℕ) : Type 0 where
  pub can : P h i
  pub least : (j : ℕ) → j < i → P h j → ⊥

-- each step of w, made after h, is the lowest-numbered that can be made there
abbrev pub LowestFirst : (List ℕ → ℕ → Type 0) → List ℕ → List ℕ → Type 0
LowestFirst P h w = Steps (λ u i. Least P (h ++ u) i) w

-- each step of w after h is the lowest-numbered that may run
abbrev pub Lowest : Carry → List (List Event) → List ℕ → List ℕ → Type 0
Lowest M L h w = LowestFirst (May M L) h w

-- w is what a drive of n steps makes after h: n steps, or fewer where none is left
pub record Drives (M : Carry) (L : List (List Event)) (h : List ℕ) (n : ℕ) (w : List ℕ) : Type 0 where
  pub lowest : Lowest M L h w
  pub most : length w ≤ n
  pub stops : length w < n → Ended M L (h ++ w)
