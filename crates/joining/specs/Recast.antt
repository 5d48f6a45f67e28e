-- A chart with its instances renamed.
use Rattle.std.specs.Prelude.{◌≡◌, ℕ, zero, suc, ◌<◌, Bool, true, cond, ◌&&◌, List, [], ◌∷◌, map, length, Some, None, Option, ◌==◌, nat_lt, slice_index}
use Rattle.std.specs.List.{range_with_len}
use Rattle.charts.specs.declared.parts.Event.{Event}
use Rattle.charts.specs.Lists.{column}
use Rattle.charts.specs.declared.faults.Fault.{Fault}
use Rattle.charts.specs.Judged.{unspoiled}
use Rattle.joining.specs.Joined.{join_fault}
use Rattle.joining.specs.Moves.{moved}

-- the name that t gives to instance i
abbrev pub to : List ℕ → ℕ → ℕ
to t i = slice_index t i

-- the first instance to which t gives the name j
abbrev pub from : List ℕ → ℕ → ℕ
from [] j = 0
from (x ∷ t) j = cond (x == j) 0 (suc (from t j))

-- t names each of the first w instances by one of them, no two by the same, and none of them is left out
pub record Permutes (t : List ℕ) (w : ℕ) : Type 0 where
  pub within : (i : ℕ) → i < w → to t i < w
  pub apart : (i j : ℕ) → i < w → j < w → to t i ≡ to t j → i ≡ j
  pub onto : (j : ℕ) → j < w → (i : ℕ) × (i < w) × (to t i ≡ j)

-- instance i becomes t(i), in peers too
abbrev pub recast : List (List Event) → List ℕ → List (List Event)
recast L t = map (λ j. map (moved (to t) 0) (column L (from t j))) (range_with_len 0 (length L))

-- t names i by one of the first w, no earlier one by the same name, and some one of them by i
abbrev pub turns : List ℕ → ℕ → ℕ → Bool
turns t w i = nat_lt (to t i) w && (from t (to t i) == i && nat_lt (from t i) w)

-- so for each of the first n
abbrev pub turns_below : List ℕ → ℕ → ℕ → Bool
turns_below t w zero = true
turns_below t w (suc n) = turns t w n && turns_below t w n

-- the chart's fault, or 32 where t is no permutation of its instances
abbrev pub recast_trouble : Option Fault → List (List Event) → List ℕ → Option Fault
recast_trouble (Some f) L t = Some f
recast_trouble None L t = cond (turns_below t (length L) (length L)) None (Some (join_fault 32 5))

-- the recast lists, none where the chart or t is spoiled
abbrev pub recast_lists : Option Fault → List (List Event) → List ℕ → List (List Event)
recast_lists f L t = unspoiled (recast_trouble f L t) (recast L t)

-- t permutes the instances of L, and recasting by t and then by b gives L again
pub record Undoes (L : List (List Event)) (t b : List ℕ) : Type 0 where
  pub permutes : Permutes t (length L)
  pub fault : recast_trouble None (recast L t) b ≡ None
  pub lists : recast_lists None (recast L t) b ≡ L

-- a recast of a chart without a fault has none exactly when t permutes its instances
pub record Exactly (f : Option Fault) (L : List (List Event)) (t : List ℕ) : Type 0 where
  pub permuted : recast_trouble f L t ≡ None → (f ≡ None) × Permutes t (length L)
  pub stands : f ≡ None → Permutes t (length L) → recast_trouble f L t ≡ None
