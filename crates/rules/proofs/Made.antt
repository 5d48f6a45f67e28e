-- As many steps were made as the positions come to.
use Rattle.std.proofs.Common.{◌≡◌, ℕ, zero, suc, ◌+◌, ◌<◌, ◌≤◌, cond, eqb, ltb, List, [], ◌∷◌, length, map, take, sum_by, refl, ap, ◌∙◌, inl, inr, add-one, arith}
use Rattle.std.specs.List.{fold, range_with_len}
use Rattle.std.proofs.lemmas.List.{get_or_past, take_all}
use Rattle.std.proofs.lemmas.List.Sums.{sum_by_more}
use Rattle.std.proofs.lemmas.Bool.{cases_eq, cases_lt, cases_order, eq-eqb, ne_eqb, lt-ltb, le-ltb, cond-true, cond-false}
use Rattle.charts.specs.declared.parts.Event.{Event}
use Rattle.charts.specs.Lists.{count_of, size}
use Rattle.orders.specs.Histories.{pos}
use Rattle.rules.specs.Made.{sum_below, steps_made}

-- one instance more
pub sum_more : (p : ℕ → ℕ) (n : ℕ) → sum_below p (n + 1) ≡ sum_below p n + p n
sum_more p n = rw add-one refl

-- the positions of a range of instances, added up
total_from : (p : ℕ → ℕ) (t a n : ℕ) → fold (λ s x. s + x) t (map p (range_with_len a n)) + sum_below p a ≡ t + sum_below p (a + n)
total_from p t a zero = let i : a + 0 ≡ a = omega arith in let e = ap (sum_below p) i in omega arith
total_from p t a (suc n) =
    let r = total_from p (t + p a) (a + 1) n in
    let m = sum_more p a in
    let i : a + 1 + n ≡ a + suc n = omega arith in
    let e = ap (sum_below p) i in
    omega arith

pub total_below : (p : ℕ → ℕ) (n : ℕ) → fold (λ s x. s + x) 0 (map p (range_with_len 0 n)) ≡ sum_below p n
total_below p n = let r = total_from p 0 0 n in let i : 0 + n ≡ n = omega arith in let e = ap (sum_below p) i in omega arith

-- sums of positions that are the same, or no larger
pub sum_same : (p q : ℕ → ℕ) (n : ℕ) → ((i : ℕ) → p i ≡ q i) → sum_below p n ≡ sum_below q n
sum_same p q zero same = refl
sum_same p q (suc n) same = let r = sum_same p q n same in let s = same n in omega arith

sum_least : (p q : ℕ → ℕ) (n : ℕ) → ((i : ℕ) → p i ≤ q i) → sum_below p n ≤ sum_below q n
sum_least p q zero less = omega arith
sum_least p q (suc n) less = let r = sum_least p q n less in let s = less n in omega arith

-- a part of the sum is no larger
pub sum_part : (p : ℕ → ℕ) (n m : ℕ) → n ≤ m → sum_below p n ≤ sum_below p m
sum_part p n zero h = let e : n ≡ 0 = omega arith in let a = ap (sum_below p) e in omega arith
sum_part p n (suc m) h =
    elim (cases_eq n (suc m)) [
      | inl e ↦ let a = ap (sum_below p) e in omega arith
      | inr d ↦ let r = sum_part p n m (omega (arith, d)) in omega arith
    ]

-- the events of all instances together are the chart's
sum_counts : (L : List (List Event)) (n : ℕ) → n ≤ length L → sum_below (count_of L) n ≡ sum_by length (take n L)
sum_counts L zero h = refl
sum_counts L (suc n) h =
    let r = sum_counts L n (omega arith) in
    let s = rw add-one at (sum_by_more {X = List Event} length L n [] (omega arith)) in
    omega arith

-- no more steps are made than there are events
pub made_most : (L : List (List Event)) (p : ℕ → ℕ) → ((i : ℕ) → p i ≤ count_of L i) → steps_made L p ≤ size L
made_most L p within =
    let a = sum_least p (count_of L) (length L) within in
    let b = sum_counts L (length L) (omega arith) in
    let c = ap (sum_by length) (take_all (length L) L (omega arith)) in
    omega arith

-- one step more
sum_step : (x : ℕ) (h : List ℕ) (n : ℕ) → sum_below (pos (x ∷ h)) n ≡ cond (ltb x n) 1 0 + sum_below (pos h) n
sum_step x h zero = let c = cond-false {A = ℕ} (ltb x 0) 1 0 (le-ltb x 0 (omega arith)) in omega arith
sum_step x h (suc n) =
    let r = sum_step x h n in
    elim (cases_order x n) [
      | inl e ↦
          let a = cond-true {A = ℕ} (eqb x n) 1 0 (eq-eqb x n e) in
          let b = cond-false {A = ℕ} (ltb x n) 1 0 (le-ltb x n (omega arith)) in
          let c = cond-true {A = ℕ} (ltb x (suc n)) 1 0 (lt-ltb x (suc n) (omega arith)) in
          omega arith
      | inr (inl l) ↦
          let a = cond-false {A = ℕ} (eqb x n) 1 0 (ne_eqb x n (λ e. omega arith)) in
          let b = cond-true {A = ℕ} (ltb x n) 1 0 (lt-ltb x n l) in
          let c = cond-true {A = ℕ} (ltb x (suc n)) 1 0 (lt-ltb x (suc n) (omega arith)) in
          omega arith
      | inr (inr l) ↦
          let a = cond-false {A = ℕ} (eqb x n) 1 0 (ne_eqb x n (λ e. omega arith)) in
          let b = cond-false {A = ℕ} (ltb x n) 1 0 (le-ltb x n (omega arith)) in
          let c = cond-false {A = ℕ} (ltb x (suc n)) 1 0 (le-ltb x (suc n) (omega arith)) in
          omega arith
    ]

-- a history in which only the first n instances step has as many steps as their positions come to
sum_length : (h : List ℕ) (n : ℕ) → ((i : ℕ) → 1 ≤ pos h i → i < n) → sum_below (pos h) n ≡ length h
sum_length [] n few = sum_none n
  where
    sum_none : (n : ℕ) → sum_below (pos []) n ≡ 0
    sum_none zero = refl
    sum_none (suc n) = let r = sum_none n in omega arith
sum_length (x ∷ h) n few =
    let one = cond-true {A = ℕ} (eqb x x) 1 0 (eq-eqb x x refl) in
    let a = sum_step x h n in
    let b = cond-true {A = ℕ} (ltb x n) 1 0 (lt-ltb x n (few x (omega arith))) in
    let c = sum_length h n (λ i l. few i (omega arith)) in
    omega arith

-- only instances of the chart have events
pub count_width : (L : List (List Event)) (i : ℕ) → 1 ≤ count_of L i → i < length L
count_width L i h =
    elim (cases_lt i (length L)) [
      | inl l ↦ l
      | inr far ↦ absurd (let e = ap length (get_or_past L i [] far) in omega arith)
    ]

-- the steps made are those of every history that leads to the positions
pub made_length : (L : List (List Event)) (p : ℕ → ℕ) (h : List ℕ) → ((i : ℕ) → p i ≤ count_of L i) → ((i : ℕ) → p i ≡ pos h i) → steps_made L p ≡ length h
made_length L p h within same =
    sum_same p (pos h) (length L) same
    ∙ sum_length h (length L) (λ i l. count_width L i (let w = within i in let s = same i in omega arith))
