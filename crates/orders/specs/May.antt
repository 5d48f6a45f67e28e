-- What may run after a history, and what an instance that may not run waits for.
use Rattle.std.specs.Prelude.{◌≡◌, ℕ, ◌<◌, ◌≤◌, true, false, ◌⊎◌, List, length}
use Rattle.charts.specs.declared.parts.Event.{Event}
use Rattle.charts.specs.Events.{event, output, input, action, environment}
use Rattle.charts.specs.Lists.{At}
use Rattle.media.specs.Carry.{Carry}
use Rattle.orders.specs.Histories.{pos, Next}
use Rattle.orders.specs.Passing.{on_the_way, ahead}

-- the next event of instance i may run after h
pub data May (M : Carry) (L : List (List Event)) (h : List ℕ) (i : ℕ) : Type 0 where
  -- an action, or an event with the environment
  alone : (e : Event) → Next L h i e → (e.kind ≡ action) ⊎ (e.peer ≡ environment) → May M L h i
  -- an output that the medium sends
  sends : (j m : ℕ) → Next L h i (event output j m) → j < length L → M.send i j (on_the_way L h i j) ≡ true → May M L h i
  -- an input whose output, event k of s, has run, and which the medium takes
  takes : (s m k : ℕ) → Next L h i (event input s m) → s < length L → At L s k (event output i m) → k < pos h s →
      M.take s i (ahead L h s i k) ≡ true → May M L h i

-- instance i has an event left that may not run after h, and waits for j
pub data Waits (M : Carry) (L : List (List Event)) (h : List ℕ) (i : ℕ) : ℕ → Type 0 where
  -- for the receiver, where the medium does not send
  receiver : (j m : ℕ) → Next L h i (event output j m) → j < length L → M.send i j (on_the_way L h i j) ≡ false → Waits M L h i j
  -- for the sender, where nothing was sent
  sender : (s m k : ℕ) → Next L h i (event input s m) → s < length L → At L s k (event output i m) → pos h s ≤ k → Waits M L h i s
  -- for itself, where the medium does not take
  itself : (s m k : ℕ) → Next L h i (event input s m) → s < length L → At L s k (event output i m) → k < pos h s →
      M.take s i (ahead L h s i k) ≡ false → Waits M L h i i
