-- The three states of an instance after a history.
use Rattle.std.specs.Prelude.{◌≡◌, ℕ, ◌<◌, ◌≤◌, List}
use Rattle.charts.specs.declared.parts.Event.{Event}
use Rattle.charts.specs.Lists.{count_of}
use Rattle.media.specs.Carry.{Carry}
use Rattle.orders.specs.Histories.{pos}
use Rattle.orders.specs.May.{May, Waits}

-- it has finished, may run, or waits for an instance
pub data State (M : Carry) (L : List (List Event)) (h : List ℕ) (i : ℕ) : Type 0 where
  finished : count_of L i ≤ pos h i → State M L h i
  may : May M L h i → State M L h i
  waits : (j : ℕ) → Waits M L h i j → State M L h i

-- it is in one of them and in no other, waits for one instance at most, and that one has not finished
pub record OneState (M : Carry) (L : List (List Event)) (h : List ℕ) (i : ℕ) : Type 0 where
  pub state : State M L h i
  pub may_unfinished : May M L h i → pos h i < count_of L i
  pub waits_unfinished : (j : ℕ) → Waits M L h i j → pos h i < count_of L i
  pub may_or_waits : (j : ℕ) → May M L h i → Waits M L h i j → ⊥
  pub waits_for_one : (j k : ℕ) → Waits M L h i j → Waits M L h i k → j ≡ k
  pub waited_unfinished : (j : ℕ) → Waits M L h i j → pos h j < count_of L j
