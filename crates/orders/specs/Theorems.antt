-- What is proved of orders, for the lists of every sound chart and every lawful medium.
use Rattle.std.specs.Prelude.{◌≡◌, ℕ, suc, ◌<◌, ◌≤◌, List, ◌++◌, length}
use Rattle.charts.specs.declared.parts.Event.{Event}
use Rattle.charts.specs.Lists.{count_of}
use Rattle.charts.specs.Sound.{Sound}
use Rattle.media.specs.Carry.{Carry}
use Rattle.orders.specs.Histories.{pos}
use Rattle.orders.specs.May.{May, Waits}
use Rattle.orders.specs.Orders.{Steps, Stays, Order, Ended, Full}
use Rattle.orders.specs.States.{OneState}
use Rattle.orders.specs.Drives.{Lowest}
use Rattle.orders.specs.Rings.{Ring}
use Rattle.orders.specs.Latest.{Other, Latest}

-- what may run stays possible while its instance does not step and no other steps back
abbrev pub MayStays : Type 0
MayStays = (M : Carry) (L : List (List Event)) → Stays (May M L)

-- no order is further than e anywhere; and every ended order is as far as e, with the same waits
pub record Greatest (M : Carry) (L : List (List Event)) (e : List ℕ) : Type 0 where
  pub above : (w : List ℕ) → Order M L w → (i : ℕ) → pos w i ≤ pos e i
  pub level : (g : List ℕ) → Order M L g → Ended M L g → (i : ℕ) → pos g i ≡ pos e i
  pub waits : (g : List ℕ) → Order M L g → Ended M L g → (i j : ℕ) → (Waits M L g i j → Waits M L e i j) × (Waits M L e i j → Waits M L g i j)

-- there is one greatest end
abbrev pub EndIsGreatest : Type 0
EndIsGreatest = (M : Carry) (L : List (List Event)) (e : List ℕ) → Order M L e → Ended M L e → Greatest M L e

-- w is the lowest-first drive after h to an end, the only one, and ends in a full order where one exists
pub record Decides (M : Carry) (L : List (List Event)) (h w : List ℕ) : Type 0 where
  pub lowest : Lowest M L h w
  pub ended : Ended M L (h ++ w)
  pub only : (v : List ℕ) → Lowest M L h v → Ended M L (h ++ v) → v ≡ w
  pub reached : (f : List ℕ) → Full M L f → Full M L (h ++ w)

-- after any order of a sound chart there is such a drive
abbrev pub DriveDecides : Type 0
DriveDecides = (M : Carry) (L : List (List Event)) → Sound L → (h : List ℕ) → Order M L h → (w : List ℕ) × Decides M L h w

-- after an order each instance is in exactly one state
abbrev pub StateIsOne : Type 0
StateIsOne = (M : Carry) (L : List (List Event)) → Sound L → (h : List ℕ) → Order M L h → (i : ℕ) → OneState M L h i

-- at an end that is not full there is one ring, met within as many steps as there are instances, and it is the ring at every end
pub record OneRing (M : Carry) (L : List (List Event)) (e r : List ℕ) : Type 0 where
  pub ring : Ring M L e r
  pub soon : length (ring.lead ++ r) ≤ length L
  pub only : (q : List ℕ) → Ring M L e q → q ≡ r
  pub everywhere : (g : List ℕ) → Order M L g → Ended M L g → Ring M L g r

-- every end of a sound chart that is not full has one
abbrev pub StuckHasRing : Type 0
StuckHasRing =
    (M : Carry) (L : List (List Event)) → Sound L → (e : List ℕ) → Order M L e → Ended M L e → (Full M L e → ⊥) → (r : List ℕ) × OneRing M L e r

-- w are steps after h, none of them event k of instance i, until no other can be made
pub record Blocked (M : Carry) (L : List (List Event)) (h : List ℕ) (i k : ℕ) (w : List ℕ) : Type 0 where
  pub steps : Steps (λ u j. Other (May M L) i k (h ++ u) j) w
  pub ended : (j : ℕ) → Other (May M L) i k (h ++ w) j → ⊥

-- where a full order exists and the event has not run, a drive that never makes it ends, and one more than the length there is its latest place
abbrev pub BlockedDriveFindsLatest : Type 0
BlockedDriveFindsLatest =
    (M : Carry) (L : List (List Event)) → Sound L → (h : List ℕ) → Order M L h → (i k : ℕ) → pos h i ≤ k → k < count_of L i → (f : List ℕ) → Full M L f →
    ((w : List ℕ) × Blocked M L h i k w) × ((w : List ℕ) → Blocked M L h i k w → Latest M L h i k (suc (length (h ++ w))))
