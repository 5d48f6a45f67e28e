-- A drive as a function of the positions: what code can compute.
use Rattle.std.specs.Prelude.{ℕ, zero, suc, ◌+◌, Bool, cond, not, ◌&&◌, List, [], ◌∷◌, length, ◌==◌, nat_lt}
use Rattle.charts.specs.declared.parts.Event.{Event}
use Rattle.charts.specs.Lists.{size}
use Rattle.media.specs.Carry.{Carry}
use Rattle.orders.specs.Histories.{pos}
use Rattle.orders.specs.Deciding.{may_now_at}

-- the first of n numbers from k on that passes the test, the one after them where none does
abbrev pub first_from : (ℕ → Bool) → ℕ → ℕ → ℕ
first_from test k zero = k
first_from test k (suc n) = cond (test k) k (first_from test (suc k) n)

-- the lowest number below n that passes the test, n where none does
abbrev pub lowest : (ℕ → Bool) → ℕ → ℕ
lowest test n = first_from test 0 n

-- the positions after one step of instance i
abbrev pub moved : (ℕ → ℕ) → ℕ → ℕ → ℕ
moved p i j = p j + cond (i == j) 1 0

-- the positions after the steps of w
abbrev pub moved_by : (ℕ → ℕ) → List ℕ → ℕ → ℕ
moved_by p w j = p j + pos w j

-- up to n steps from the positions p, each the lowest below the width that passes the test
abbrev pub driven : ((ℕ → ℕ) → ℕ → Bool) → ℕ → ℕ → (ℕ → ℕ) → List ℕ
driven test width zero p = []
driven test width (suc n) p =
    cond (nat_lt (lowest (test p) width) width)
    (lowest (test p) width ∷ driven test width n (moved p (lowest (test p) width))) []

-- a step that may run and is not event k of instance i
abbrev pub other_now : Carry → List (List Event) → ℕ → ℕ → (ℕ → ℕ) → ℕ → Bool
other_now M L i k p j = may_now_at M L p j && not (j == i && p i == k)

-- the place where event k of instance i comes after h and everything else that can come before it
abbrev pub latest_place : Carry → List (List Event) → List ℕ → ℕ → ℕ → ℕ
latest_place M L h i k = length h + length (driven (other_now M L i k) (length L) (size L) (pos h)) + 1
