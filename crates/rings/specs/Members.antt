-- Rings and what a walk has met, as lists.
use Rattle.std.specs.Prelude.{◌≡◌, ℕ, ◌<◌, List, length, take, ◌≢◌, slice_index, slice_index_or}
use Rattle.rings.specs.declared.parts.Ring.{Ring}

-- the instances of a ring
abbrev pub members_of : Ring → List ℕ
members_of r = take r.len r.cells

-- the first x of the list stands at k
pub record FirstAt (met : List ℕ) (x k : ℕ) : Type 0 where
  pub within : k < length met
  pub here : slice_index_or met k 0 ≡ x
  pub before : (j : ℕ) → j < k → slice_index met j ≢ x

-- x is nowhere in the list
abbrev pub Nowhere : List ℕ → ℕ → Type 0
Nowhere met x = (j : ℕ) → j < length met → slice_index met j ≢ x
