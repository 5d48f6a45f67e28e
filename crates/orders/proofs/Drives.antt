-- A drive on positions is the lowest-first drive of what its test decides, and the only one.
use Rattle.std.proofs.Common.{◌≡◌, ℕ, zero, suc, ◌+◌, ◌<◌, ◌≤◌, Bool, true, List, [], ◌∷◌, ◌++◌, length, sym, refl, ap, subst, ap₂, inl, inr, arith}
use Rattle.std.proofs.lemmas.List.{append_assoc, append-nil, length-append}
use Rattle.std.proofs.lemmas.Bool.{cases_lt, cases_order, both_ways}
use Rattle.charts.specs.declared.parts.Event.{Event}
use Rattle.charts.specs.Lists.{count_of, size}
use Rattle.orders.specs.Histories.{pos}
use Rattle.orders.specs.Drives.{Least, LowestFirst}
use Rattle.orders.specs.Driving.{lowest, moved, driven}
use Rattle.orders.proofs.Positions.{pos_append}
use Rattle.orders.proofs.Growing.{steps_none}
use Rattle.orders.proofs.Lengths.{Within, length_done}
use Rattle.orders.proofs.Lowest.{lowest_passes, lowest_least}
use Rattle.orders.proofs.Driving.{moved_pos, moved_by_pos, driven_found, driven_none, driven_most, driven_short}
use Rattle.orders.proofs.Onwards.{onwards_head, onwards_tail, onwards_cons, onwards_weaker, onwards_within}

-- w is what a drive of n steps makes after h: n of the lowest-numbered steps that can be made, or fewer where none is left
pub record Drive (P : List ℕ → ℕ → Type 0) (h : List ℕ) (n : ℕ) (w : List ℕ) : Type 0 where
  pub lowest : LowestFirst P h w
  pub most : length w ≤ n
  pub stops : length w < n → (i : ℕ) → P (h ++ w) i → ⊥

-- a test of the positions that decides which steps can be made, all of them of instances below the width
pub record Tested (P : List ℕ → ℕ → Type 0) (test : (ℕ → ℕ) → ℕ → Bool) (width : ℕ) : Type 0 where
  pub passes : (h : List ℕ) (i : ℕ) → P h i → test (pos h) i ≡ true
  pub passed : (h : List ℕ) (i : ℕ) → test (pos h) i ≡ true → P h i
  pub below : (h : List ℕ) (i : ℕ) → P h i → i < width

module _ (P : List ℕ → ℕ → Type 0) where
  -- the lowest step is one
  pub least_one : (h : List ℕ) (i j : ℕ) → Least P h i → Least P h j → i ≡ j
  least_one h i j a b =
      elim (cases_order i j) [
        | inl e ↦ e
        | inr (inl l) ↦ absurd (b.least i l a.can)
        | inr (inr l) ↦ absurd (a.least j l b.can)
      ]

  drive_tail : (h : List ℕ) (n i : ℕ) (w : List ℕ) → Drive P h (suc n) (i ∷ w) → Drive P (h ++ (i ∷ [])) n w
  drive_tail h n i w d =
      let m = d.most in
      record {
        lowest = onwards_tail (Least P) h i w d.lowest;
        most = omega arith;
        stops = λ short j p. d.stops (omega arith) j (subst (λ (u : List ℕ). P u j) (append_assoc h (i ∷ []) w) p);
      }

  -- where a drive makes a step, another does not stop
  drive_goes : (h : List ℕ) (n j : ℕ) (v : List ℕ) → Drive P h n [] → Drive P h n (j ∷ v) → ⊥
  drive_goes h n j v a b =
      let m = b.most in
      a.stops (omega arith) j (subst (λ (u : List ℕ). P u j) (sym (append-nil h)) (onwards_head (Least P) h j v b.lowest).can)

  -- there is one drive
  pub drive_one : (h : List ℕ) (n : ℕ) (w v : List ℕ) → Drive P h n w → Drive P h n v → w ≡ v
  drive_one h n [] [] a b = refl
  drive_one h n [] (j ∷ v) a b = absurd (drive_goes h n j v a b)
  drive_one h n (i ∷ w) [] a b = absurd (drive_goes h n i w b a)
  drive_one h zero (i ∷ w) (j ∷ v) a b = absurd (let m = a.most in omega arith)
  drive_one h (suc n) (i ∷ w) (j ∷ v) a b =
      let same = least_one h i j (onwards_head (Least P) h i w a.lowest) (onwards_head (Least P) h j v b.lowest) in
      let rest : Drive P (h ++ (i ∷ [])) n v = subst (λ (x : ℕ). Drive P (h ++ (x ∷ [])) n v) (sym same) (drive_tail h n j v b) in
      ap₂ (λ (x : ℕ) (y : List ℕ). x ∷ y) same (drive_one (h ++ (i ∷ [])) n w v (drive_tail h n i w a) rest)

  -- and one that ends
  pub ended_one : (h w v : List ℕ) → LowestFirst P h w → LowestFirst P h v → ((i : ℕ) → P (h ++ w) i → ⊥) → ((i : ℕ) → P (h ++ v) i → ⊥) → w ≡ v
  ended_one h w v a b ends ends' =
      drive_one h (length w + length v) w v (record { lowest = a; most = omega arith; stops = λ _. ends })
      (record { lowest = b; most = omega arith; stops = λ _. ends' })

module _ (P : List ℕ → ℕ → Type 0) (test : (ℕ → ℕ) → ℕ → Bool) (width : ℕ) (t : Tested P test width) where
  -- what the search finds can be done, and is the lowest that can
  pub found_least : (h : List ℕ) → lowest (test (pos h)) width < width → Least P h (lowest (test (pos h)) width)
  found_least h l =
      record {
        can = t.passed h (lowest (test (pos h)) width) (lowest_passes (test (pos h)) width l);
        least = λ j b p. both_ways (test (pos h) j) (lowest_least (test (pos h)) width j b) (t.passes h j p);
      }

  -- and where it finds none, none can be done
  pub found_none : (h : List ℕ) → width ≤ lowest (test (pos h)) width → (i : ℕ) → P h i → ⊥
  found_none h none i p =
      let b = t.below h i p in both_ways (test (pos h) i) (lowest_least (test (pos h)) width i (omega arith)) (t.passes h i p)

  driven_lowest : (n : ℕ) (h : List ℕ) → LowestFirst P h (driven test width n (pos h))
  driven_lowest zero h = steps_none (λ u. Least P (h ++ u))
  driven_lowest (suc n) h =
      elim (cases_lt (lowest (test (pos h)) width) width) [
        | inl l ↦
            let i = lowest (test (pos h)) width in
            let rest : LowestFirst P (h ++ (i ∷ [])) (driven test width n (moved (pos h) i)) =
            subst (λ (p : ℕ → ℕ). LowestFirst P (h ++ (i ∷ [])) (driven test width n p)) (sym (moved_pos h i)) (driven_lowest n (h ++ (i ∷ []))) in
            subst (LowestFirst P h) (sym (driven_found test width n (pos h) i refl l))
            (onwards_cons (Least P) h i (driven test width n (moved (pos h) i)) (found_least h l) rest)
        | inr none ↦ subst (LowestFirst P h) (sym (driven_none test width (suc n) (pos h) none)) (steps_none (λ u. Least P (h ++ u)))
      ]

  pub driven_drive : (n : ℕ) (h : List ℕ) → Drive P h n (driven test width n (pos h))
  driven_drive n h =
      record {
        lowest = driven_lowest n h;
        most = driven_most test width n (pos h);
        stops = λ short.
            let w = driven test width n (pos h) in
            let none = driven_short test width n (pos h) short in
            let there = ap (λ (p : ℕ → ℕ). lowest (test p) width) (moved_by_pos h w) in
            found_none (h ++ w) (omega arith);
      }

  -- a drive is what is computed
  pub drive_driven : (n : ℕ) (h w : List ℕ) → Drive P h n w → w ≡ driven test width n (pos h)
  drive_driven n h w d = drive_one P h n w (driven test width n (pos h)) d (driven_drive n h)

  -- a drive with enough steps ends: g is any history within the lists that is nowhere further than h
  module _ (L : List (List Event)) (left : (h : List ℕ) (i : ℕ) → P h i → pos h i < count_of L i) where
    ends : (g h : List ℕ) → ((i : ℕ) → pos g i ≤ pos h i) → Within L g → (n : ℕ) → size L ≤ length g + n → (i : ℕ) → P (h ++ driven test width n (pos h)) i → ⊥
    ends g h less inside n enough i p =
        let w = driven test width n (pos h) in
        let d = driven_drive n h in
        let steps = onwards_weaker (Least P) P (λ u j a. a.can) h w d.lowest in
        elim (cases_lt (length w) n) [
          | inl short ↦ d.stops short i p
          | inr long ↦
              let e = length-append g w in
              let done = length_done L (g ++ w) (onwards_within P L left g h less inside w steps) (omega arith) i in
              let l = left (h ++ w) i p in
              let a = pos_append g w i in
              let b = pos_append h w i in
              let c = less i in
              omega arith
        ]

    pub drive_ends : (h : List ℕ) → Within L h → (n : ℕ) → size L ≤ length h + n → (i : ℕ) → P (h ++ driven test width n (pos h)) i → ⊥
    drive_ends h inside n enough = ends h h (λ i. omega arith) inside n enough

    pub drive_ends_anywhere : (h : List ℕ) (n : ℕ) → size L ≤ n → (i : ℕ) → P (h ++ driven test width n (pos h)) i → ⊥
    drive_ends_anywhere h n enough = ends [] h (λ i. omega arith) (λ i. omega arith) n (omega arith)
