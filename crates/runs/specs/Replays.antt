-- The whole promise: what a list of calls on a new run answers and writes.
use Rattle.std.specs.Prelude.{◌≡◌, ℕ, List, [], ◌∷◌, ◌++◌, length, vec_items, Option}
use Rattle.std.specs.Vec.{with_items}
use Rattle.charts.specs.declared.parts.Event.{Event}
use Rattle.charts.specs.declared.faults.Fault.{Fault}
use Rattle.media.specs.Carry.{Carry}
use Rattle.orders.specs.Orders.{Order, Full}
use Rattle.runs.specs.declared.calls.Turn.{Turn}
use Rattle.runs.specs.Answers.{Answers}
use Rattle.runs.specs.Histories.{After}

-- the history h is an order, and if a full order exists, one starts with it
pub record StartsFull (M : Carry) (L : List (List Event)) (h : List ℕ) : Type 0 where
  pub order : Order M L h
  pub goes_on : (f : List ℕ) → Full M L f → (v : List ℕ) × Full M L (h ++ v)

-- a turn x made after the history h has become y, and g is the history then
pub record TurnMade (t : Option Fault) (M : Carry) (L : List (List Event)) (h : List ℕ) (x y : Turn) (g : List ℕ) : Type 0 where
  pub starts : StartsFull M L h
  -- the call is as it was, and answered as the history fixes
  pub call : y.call ≡ x.call
  -- its buffer has the room that it had: nothing was allocated for it
  pub room : y.buffer ≡ with_items x.buffer (vec_items y.buffer)
  pub answered : Answers t M L h x.call (vec_items x.buffer) y.answer (vec_items y.buffer)
  -- there is one history after it
  pub history : After t M L h x.call (length (vec_items x.buffer)) g
  pub only : (k : List ℕ) → After t M L h x.call (length (vec_items x.buffer)) k → k ≡ g

-- the turns xs, made one after another from the history h on, have become ys, and g is the history then
abbrev pub Replayed : Option Fault → Carry → List (List Event) → List ℕ → List Turn → List Turn → List ℕ → Type 0
Replayed t M L h [] [] g = (g ≡ h) × StartsFull M L h
Replayed t M L h [] (y ∷ ys) g = ⊥
Replayed t M L h (x ∷ xs) [] g = ⊥
Replayed t M L h (x ∷ xs) (y ∷ ys) g = (k : List ℕ) × TurnMade t M L h x y k × Replayed t M L k xs ys g
