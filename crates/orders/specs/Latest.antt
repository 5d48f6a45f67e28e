-- How far back an event can be pushed.
use Rattle.std.specs.Prelude.{◌≡◌, ℕ, suc, ◌≤◌, List, ◌∷◌, ◌++◌, length, ◌≢◌}
use Rattle.charts.specs.declared.parts.Event.{Event}
use Rattle.media.specs.Carry.{Carry}
use Rattle.orders.specs.Histories.{pos}
use Rattle.orders.specs.Orders.{Full}

-- event k of instance i has place n in h, counted from 1: there i is listed for the (k + 1)th time
pub record Place (h : List ℕ) (i k n : ℕ) : Type 0 where
  pub before : List ℕ
  pub after : List ℕ
  pub is : h ≡ before ++ (i ∷ after)
  pub listed : pos before i ≡ k
  pub place : n ≡ suc (length before)

-- any step that can be made but event k of instance i
pub record Other (P : List ℕ → ℕ → Type 0) (i k : ℕ) (h : List ℕ) (j : ℕ) : Type 0 where
  pub can : P h j
  pub other : j ≡ i → pos h i ≢ k

-- n is the latest place of event k of instance i after h: every full order that starts with h has it there or earlier, and one has it there
pub record Latest (M : Carry) (L : List (List Event)) (h : List ℕ) (i k n : ℕ) : Type 0 where
  pub never_later : (v : List ℕ) (m : ℕ) → Full M L (h ++ v) → Place (h ++ v) i k m → m ≤ n
  pub more : List ℕ
  pub full : Full M L (h ++ more)
  pub reached : Place (h ++ more) i k n
