-- At an end that is not full the walk that is computed comes to the ring.
use Rattle.std.proofs.Common.{◌≡◌, ℕ, zero, suc, ◌<◌, ◌≤◌, cond, ltb, List, [], ◌∷◌, ◌++◌, length, get_or, sym, refl, ap, ◌∙◌, subst, arith}
use Rattle.std.proofs.lemmas.Bool.{lt-ltb, le-ltb, cond-true, cond-false}
use Rattle.charts.specs.declared.parts.Event.{Event}
use Rattle.charts.specs.Lists.{count_of}
use Rattle.charts.specs.Sound.{Sound}
use Rattle.media.specs.Carry.{Carry}
use Rattle.orders.specs.Histories.{pos}
use Rattle.orders.specs.Orders.{Order, Ended}
use Rattle.orders.specs.Rings.{Ring}
use Rattle.orders.specs.Deciding.{unfinished, waits_now}
use Rattle.orders.specs.Driving.{lowest}
use Rattle.orders.specs.Walking.{among, since, walked, ring_at}
use Rattle.orders.specs.Theorems.{OneRing}
use Rattle.orders.proofs.Rings.{left_width, next_left, lowest_is_left, one_ring_at_end, ring_length, ring_below}
use Rattle.rings.specs.Walks.{waits_on, walked_within, ring_of}

-- a walk among numbers below the width is the same as one that does not ask for the width
module _ (next step : ℕ → ℕ) (Q : ℕ → Type 0) (width : ℕ)
    (stays : (x : ℕ) → Q x → Q (step x)) (bound : (x : ℕ) → Q x → x < width) (same : (x : ℕ) → Q x → next x ≡ step x) where
  walked_alike : (n : ℕ) (met : List ℕ) (x : ℕ) → Q x → walked_within next width n met x ≡ walked step n met x
  walked_alike zero met x q = refl
  walked_alike (suc n) met x q =
      cond-true {A = List ℕ} (ltb x width) (cond (among x met) (since x met) (walked_within next width n (met ++ (x ∷ [])) (next x))) [] (lt-ltb x width (bound x q))
      ∙ ap (cond (among x met) (since x met))
      (ap (walked_within next width n (met ++ (x ∷ []))) (same x q) ∙ walked_alike n (met ++ (x ∷ [])) (step x) (stays x q))

-- where every instance has finished there is none
pub ring_of_none : (L : List (List Event)) (p : ℕ → ℕ) → length L ≤ lowest (unfinished L p) (length L) → ring_of L p ≡ []
ring_of_none L p none = cond-false {A = List ℕ} (ltb (lowest (unfinished L p) (length L)) (length L)) _ [] (le-ltb (lowest (unfinished L p) (length L)) (length L) none)

-- the same positions are one function
level : (p q : ℕ → ℕ) → ((j : ℕ) → p j ≡ q j) → p ≡ q
level p q same t = λ j. same j t

-- at the positions p of an order e that has ended, where an instance has not finished
module _ (M : Carry) (L : List (List Event)) (sound : Sound L) (e : List ℕ) (order : Order M L e) (ended : Ended M L e)
    (p : ℕ → ℕ) (places : (j : ℕ) → p j ≡ pos e j) (some : lowest (unfinished L p) (length L) < length L) where
  some_left : lowest (unfinished L (pos e)) (length L) < length L
  some_left = subst (λ (q : ℕ → ℕ). lowest (unfinished L q) (length L) < length L) (level p (pos e) places) some

  -- the walk that is computed is that of the theory
  pub ring_of_is : ring_of L p ≡ ring_at L (pos e)
  ring_of_is =
      ap (ring_of L) (level p (pos e) places)
      ∙ walked_alike (waits_on L (pos e)) (waits_now L (pos e)) (λ i. pos e i < count_of L i) (length L) (next_left M L sound e order ended) (left_width M L sound e)
      (λ x left. cond-true (unfinished L (pos e) x) (waits_now L (pos e) x) x (lt-ltb (pos e x) (count_of L x) left))
      (suc (length L)) [] (lowest (unfinished L (pos e)) (length L)) (lowest_is_left M L sound e order ended some_left).left

  -- it comes to the one ring
  pub one_ring_of : OneRing M L e (ring_of L p)
  one_ring_of = subst (OneRing M L e) (sym ring_of_is) (one_ring_at_end M L sound e order ended some_left)

  pub ring_of_lem : Ring M L e (ring_of L p)
  ring_of_lem = one_ring_of.ring

  -- which has at least one instance, at most as many as there are, and 32 at most
  pub ring_of_length : (1 ≤ length (ring_of L p)) × (length (ring_of L p) ≤ length L)
  ring_of_length = ring_length M L sound e (ring_of L p) ring_of_lem

  pub ring_of_short : length (ring_of L p) ≤ 32
  ring_of_short = let r = ring_of_length.1 in let few = sound.few_instances in omega arith

  -- each an instance of the chart
  pub ring_of_below : (k : ℕ) → k < length (ring_of L p) → get_or (ring_of L p) k 0 < length L
  ring_of_below = ring_below M L sound e (ring_of L p) ring_of_lem
