-- Each relation on orders holds of a sound chart exactly where its test answers true, or of exactly what is computed.
use Rattle.std.specs.Prelude.{◌≡◌, ℕ, ◌<◌, ◌≤◌, true, ◌↔◌, List, length}
use Rattle.charts.specs.declared.parts.Event.{Event}
use Rattle.charts.specs.Lists.{count_of}
use Rattle.charts.specs.Sound.{Sound}
use Rattle.media.specs.Carry.{Carry}
use Rattle.orders.specs.Histories.{pos}
use Rattle.orders.specs.May.{May, Waits}
use Rattle.orders.specs.Orders.{Order, Ended, Full}
use Rattle.orders.specs.Drives.{Drives}
use Rattle.orders.specs.Rings.{Ring}
use Rattle.orders.specs.Latest.{Latest}
use Rattle.orders.specs.Deciding.{may_now, may_now_at}
use Rattle.orders.specs.Driving.{driven, latest_place}
use Rattle.orders.specs.Walking.{ring_at}
use Rattle.computed.specs.Twins.{is_order, is_ended, is_full, waits_on}

pub record Computed : Type 0 where
  -- an instance may run where may_now says so
  pub may : (M : Carry) (L : List (List Event)) → Sound L → (h : List ℕ) (i : ℕ) → (may_now M L h i ≡ true) ↔ May M L h i
  -- a history is an order where is_order says so
  pub order : (M : Carry) (L : List (List Event)) → Sound L → (h : List ℕ) → (is_order M L h ≡ true) ↔ Order M L h
  -- none may run where is_ended says so, after any history, an order or not
  pub ended : (M : Carry) (L : List (List Event)) → Sound L → (h : List ℕ) → (is_ended M L h ≡ true) ↔ Ended M L h
  -- a history is a full order where is_full says so
  pub full : (M : Carry) (L : List (List Event)) → Sound L → (h : List ℕ) → (is_full M L h ≡ true) ↔ Full M L h
  -- instance i waits for j where waits_on says so
  pub waits : (M : Carry) (L : List (List Event)) → Sound L → (h : List ℕ) (i j : ℕ) → (waits_on M L h i j ≡ true) ↔ Waits M L h i j
  -- a drive of n steps makes after a history what driven computes
  pub drives :
      (M : Carry) (L : List (List Event)) → Sound L → (h : List ℕ) (n : ℕ) (w : List ℕ) →
      (w ≡ driven (may_now_at M L) (length L) n (pos h)) ↔ Drives M L h n w
  -- at an end that is not full the ring is the one that ring_at computes
  pub ring :
      (M : Carry) (L : List (List Event)) → Sound L → (e : List ℕ) → Order M L e → Ended M L e → (Full M L e → ⊥) → (r : List ℕ) →
      (r ≡ ring_at L (pos e)) ↔ Ring M L e r
  -- where a full order exists, the latest place of an event that has not run is the one that latest_place computes
  pub latest :
      (M : Carry) (L : List (List Event)) → Sound L → (h : List ℕ) → Order M L h → (i k : ℕ) → pos h i ≤ k → k < count_of L i → (f : List ℕ) → Full M L f → (n : ℕ) →
      (n ≡ latest_place M L h i k) ↔ Latest M L h i k n
