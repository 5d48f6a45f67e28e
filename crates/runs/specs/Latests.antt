-- What latest answers after a history.
use Rattle.std.specs.Prelude.{◌≡◌, ℕ, ◌<◌, ◌≤◌, List, [], ◌∷◌, length, Ok, Err, Result}
use Rattle.charts.specs.declared.parts.Event.{Event}
use Rattle.charts.specs.Lists.{count_of}
use Rattle.media.specs.Carry.{Carry}
use Rattle.orders.specs.Histories.{pos}
use Rattle.orders.specs.Orders.{Order, Full}
use Rattle.orders.specs.Latest.{Latest}
use Rattle.runs.specs.declared.parts.Refusal.{Refusal}
use Rattle.runs.specs.Refusals.{told}

-- the latest place of event k of instance i, refused after h
pub data LatestRefused (M : Carry) (L : List (List Event)) (h : List ℕ) (i k : ℕ) (r : Refusal) : Type 0 where
  -- there is no such instance
  no_instance : told r ≡ 41 ∷ [] → length L ≤ i → LatestRefused M L h i k r
  -- it has no such event
  no_event : told r ≡ 45 ∷ [] → i < length L → count_of L i ≤ k → LatestRefused M L h i k r
  -- the event has run
  has_run : told r ≡ 46 ∷ [] → k < count_of L i → k < pos h i → LatestRefused M L h i k r
  -- no full order exists, if h is an order
  no_full_order : told r ≡ 47 ∷ [] → k < count_of L i → pos h i ≤ k → (Order M L h → (f : List ℕ) → Full M L f → ⊥) → LatestRefused M L h i k r

-- the latest place, if h is an order, or a refusal
abbrev pub LatestAnswers : Carry → List (List Event) → List ℕ → ℕ → ℕ → Result ℕ Refusal → Type 0
LatestAnswers M L h i k (Ok n) = (k < count_of L i) × (pos h i ≤ k) × (Order M L h → Latest M L h i k n)
LatestAnswers M L h i k (Err r) = LatestRefused M L h i k r
