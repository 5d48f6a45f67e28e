-- The length of a history whose positions stay within the chart's lists.
use Rattle.std.proofs.Common.{◌≡◌, ℕ, zero, suc, ◌+◌, ◌<◌, ◌≤◌, eqb, List, [], ◌∷◌, ◌++◌, length, replicate, refl, ap, subst, inl, inr, arith}
use Rattle.std.proofs.lemmas.List.{length-append, length_push, length-replicate}
use Rattle.std.proofs.lemmas.List.Sums.{sum_by-cons}
use Rattle.std.proofs.lemmas.Bool.{cases_eq, cases_lt, cond-true, cond-false, eq-eqb, ne_eqb}
use Rattle.charts.specs.declared.parts.Event.{Event}
use Rattle.charts.specs.Lists.{count_of, size}
use Rattle.orders.specs.Histories.{pos}
use Rattle.orders.proofs.Positions.{pos_append, pos_step, pos_stay}
use Rattle.orders.proofs.Latest.{shorter}

-- every instance, the first being k, as often as it has events
every : ℕ → List (List Event) → List ℕ
every k [] = []
every k (es ∷ L) = replicate (length es) k ++ every (suc k) L

pos_own : (n k : ℕ) → pos (replicate n k) k ≡ n
pos_own zero k = omega arith
pos_own (suc n) k = let r = pos_own n k in let c = cond-true {A = ℕ} (eqb k k) 1 0 (eq-eqb k k refl) in omega arith

pos_other : (n k j : ℕ) → (k ≡ j → ⊥) → pos (replicate n k) j ≡ 0
pos_other zero k j d = omega arith
pos_other (suc n) k j d = let r = pos_other n k j d in let c = cond-false {A = ℕ} (eqb k j) 1 0 (ne_eqb k j d) in omega arith

every_before : (k : ℕ) (L : List (List Event)) (j : ℕ) → j < k → pos (every k L) j ≡ 0
unfolding every
every_before k [] j l = omega arith
every_before k (es ∷ L) j l =
    let a = pos_append (replicate (length es) k) (every (suc k) L) j in
    let b = pos_other (length es) k j (λ e. omega arith) in
    let c = every_before (suc k) L j (omega arith) in
    omega arith

every_count : (k : ℕ) (L : List (List Event)) (j x : ℕ) → x ≡ k + j → pos (every k L) x ≡ count_of L j
unfolding every
every_count k [] j x e = omega arith
every_count k (es ∷ L) zero x e =
    let a = pos_append (replicate (length es) k) (every (suc k) L) x in
    let same : k ≡ x = omega arith in
    let b = ap (pos (replicate (length es) k)) same in
    let c = pos_own (length es) k in
    let d = every_before (suc k) L x (omega arith) in
    omega arith
every_count k (es ∷ L) (suc j) x e =
    let a = pos_append (replicate (length es) k) (every (suc k) L) x in
    let b = pos_other (length es) k x (λ f. omega arith) in
    let c = every_count (suc k) L j x (omega arith) in
    omega arith

every_length : (k : ℕ) (L : List (List Event)) → length (every k L) ≡ size L
unfolding every
every_length k [] = omega arith
every_length k (es ∷ L) =
    let a = length-append (replicate (length es) k) (every (suc k) L) in
    let b = length-replicate (length es) k in
    let c = every_length (suc k) L in
    let d = sum_by-cons length es L in
    omega arith

-- no position is past its list
abbrev pub Within : List (List Event) → List ℕ → Type 0
Within L h = (i : ℕ) → pos h i ≤ count_of L i

-- a step of an instance that has an event left keeps it so
pub within_step : (L : List (List Event)) (h : List ℕ) (i : ℕ) → Within L h → pos h i < count_of L i → Within L (h ++ (i ∷ []))
within_step L h i w left j =
    elim (cases_eq i j) [
      | inl same ↦ subst (λ (x : ℕ). pos (h ++ (i ∷ [])) x ≤ count_of L x) same (let a = pos_step h i in omega arith)
      | inr other ↦ let a = pos_stay h i j other in let b = w j in omega arith
    ]

-- no history within the lists is longer than the chart's size
pub within_length : (L : List (List Event)) (h : List ℕ) → Within L h → length h ≤ size L
within_length L h w =
    let a = every_length 0 L in
    let b = shorter h (every 0 L) (λ j. let c = every_count 0 L j j (omega arith) in let d = w j in omega arith) in
    omega arith

-- where every list is done, as many steps were made as there are events
pub done_length : (L : List (List Event)) (h : List ℕ) → ((i : ℕ) → pos h i ≡ count_of L i) → length h ≡ size L
done_length L h done =
    let a = every_length 0 L in
    let b = within_length L h (λ i. let d = done i in omega arith) in
    let c = shorter (every 0 L) h (λ j. let c = every_count 0 L j j (omega arith) in let d = done j in omega arith) in
    omega arith

-- and where that many were made, every list is done
pub length_done : (L : List (List Event)) (h : List ℕ) → Within L h → size L ≤ length h → (i : ℕ) → pos h i ≡ count_of L i
length_done L h w long i =
    elim (cases_lt (pos h i) (count_of L i)) [
      | inl left ↦ absurd (let a = within_length L (h ++ (i ∷ [])) (within_step L h i w left) in let b = length_push h i in omega arith)
      | inr done ↦ let a = w i in omega arith
    ]
