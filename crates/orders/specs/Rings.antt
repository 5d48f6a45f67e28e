-- The ring of instances that wait for each other.
use Rattle.std.specs.Prelude.{◌≡◌, ℕ, ◌<◌, ◌≤◌, List, [], ◌∷◌, ◌++◌}
use Rattle.charts.specs.declared.parts.Event.{Event}
use Rattle.charts.specs.Lists.{count_of}
use Rattle.media.specs.Carry.{Carry}
use Rattle.orders.specs.Histories.{pos}
use Rattle.orders.specs.May.{Waits}

-- the first of the list, y where it is empty
abbrev pub head_or : ℕ → List ℕ → ℕ
head_or y [] = y
head_or y (x ∷ xs) = x

-- each of the list is related to the next, and the last to y
abbrev pub Leads : (ℕ → ℕ → Type 0) → List ℕ → ℕ → Type 0
Leads R [] y = Unit {0}
Leads R (x ∷ xs) y = R x (head_or y xs) × Leads R xs y

-- instance i has an event left after h, and no lower-numbered one has
pub record LowestUnfinished (L : List (List Event)) (h : List ℕ) (i : ℕ) : Type 0 where
  pub left : pos h i < count_of L i
  pub lowest : (j : ℕ) → j < i → count_of L j ≤ pos h j

-- following the waits after h from the lowest unfinished instance meets those in lead and then the ring, none twice;
-- and the last of the ring waits for its first, which so is the first one met twice
pub record Ring (M : Carry) (L : List (List Event)) (h ring : List ℕ) : Type 0 where
  pub lead : List ℕ
  pub first : ℕ
  pub rest : List ℕ
  pub is : ring ≡ first ∷ rest
  pub from : LowestUnfinished L h (head_or first lead)
  pub waits : Leads (Waits M L h) (lead ++ ring) first
  pub once : (i : ℕ) → pos (lead ++ ring) i ≤ 1
