-- How names are kept: in the order of their bytes.
use Rattle.std.specs.Prelude.{◌≡◌, ℕ, ◌<◌, ◌≤◌, Bool, List, [], map, length, slice_index_or, Result, MatchResult}
use Rattle.std.specs.declared.cmp.Ordering.{Ordering}
use Rattle.std.specs.declared.cmp.Ordering.TheVariants.{Less}
use Rattle.std.specs.Ordering.{nat_cmp}
use Rattle.std.specs.Cmp.Lexicographic.{slice_cmp}
use Rattle.std.specs.FinMap.{from_sorted, is_sorted}
use Rattle.names.specs.declared.parts.Entry.{Entry}
use Rattle.names.specs.Numbers.{Numbers}

-- which of two names comes first
abbrev pub by_bytes : List ℕ → List ℕ → Ordering
by_bytes = slice_cmp nat_cmp

-- an entry's name with its number
abbrev pub named : Entry → List ℕ × ℕ
named e = (e.name.now, e.number)

-- whether each name comes before the next, so that none stands twice
abbrev pub in_order : List Entry → Bool
in_order es = is_sorted by_bytes (map named es)

-- the names in the entries, with their numbers
abbrev pub numbers_in : List Entry → Numbers
numbers_in es = from_sorted (map named es)

-- the name at place i
abbrev pub name_at : List (List ℕ × ℕ) → ℕ → List ℕ
name_at es i = (slice_index_or es i ([], 0)).0

-- the name stands at place i
pub record StandsAt (es : List (List ℕ × ℕ)) (name : List ℕ) (i : ℕ) : Type 0 where
  pub within : i < length es
  pub is : name_at es i ≡ name

-- the name has to go to place i: those that come before it stand before that place, and all others come after it
pub record GoesAt (es : List (List ℕ × ℕ)) (name : List ℕ) (i : ℕ) : Type 0 where
  pub within : i ≤ length es
  pub before : (j : ℕ) → j < i → by_bytes (name_at es j) name ≡ Less
  pub after : (j : ℕ) → i ≤ j → j < length es → by_bytes name (name_at es j) ≡ Less

-- a search answers where the name stands, or else where it has to go
abbrev pub IsPlaceOf : List Entry → List ℕ → Result ℕ ℕ → Type 0
IsPlaceOf es name r = MatchResult r (StandsAt (map named es) name) (GoesAt (map named es) name)
