-- The names back of a table of names.
use Rattle.std.specs.Prelude.{◌≡◌, ℕ, ◌<◌, List, length, slice_index_or}
use Rattle.joining.specs.Recast.{from}

-- b has, for each of 32 names, the first instance to which t gives it, and 32 where there is none
pub record NamesBack (t b : List ℕ) : Type 0 where
  pub long : length b ≡ 32
  pub back : (j : ℕ) → j < 32 → slice_index_or b j 0 ≡ from t j
