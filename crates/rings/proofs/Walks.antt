-- The walk along the waits, turn by turn.
use Rattle.std.proofs.Common.{◌≡◌, ℕ, zero, suc, ◌+◌, ◌<◌, ◌≤◌, true, false, eqb, ltb, List, [], ◌∷◌, ◌++◌, length, drop, Some, None, sym, refl, ap, ◌∙◌, subst, inl, inr, arith}
use Rattle.std.proofs.lemmas.List.{length_push}
use Rattle.std.proofs.lemmas.Bool.{cases_eq, cases_lt, lt-ltb, le-ltb, cond-true, cond-false, eq-eqb, ne_eqb}
use Rattle.orders.specs.Histories.{pos}
use Rattle.orders.specs.Walking.{among, since}
use Rattle.orders.proofs.Positions.{pos_step, pos_stay}
use Rattle.orders.proofs.Walking.{not_listed, get_or_listed, listed_among, once_short}
use Rattle.rules.specs.Held.{some_below}
use Rattle.rings.specs.Members.{FirstAt, Nowhere}
use Rattle.rings.specs.Walks.{walked_within}

-- a number that is nowhere in a list is not among its numbers
pub nowhere_not_among : (met : List ℕ) (x : ℕ) → Nowhere met x → among x met ≡ false
nowhere_not_among [] x none = refl
nowhere_not_among (y ∷ met) x none =
    let n = ne_eqb y x (none 0 (omega arith)) in
    let r = nowhere_not_among met x (λ j l e. none (suc j) (omega arith) e) in
    cc

-- from the first x on
pub since_first : (met : List ℕ) (x k : ℕ) → FirstAt met x k → since x met ≡ drop k met
since_first [] x k f = absurd (let w = f.within in omega arith)
since_first (y ∷ met) x zero f = cond-true {A = List ℕ} (eqb y x) (y ∷ met) (since x met) (eq-eqb y x f.here)
since_first (y ∷ met) x (suc k) f =
    let w = f.within in
    cond-false {A = List ℕ} (eqb y x) (y ∷ met) (since x met) (ne_eqb y x (f.before 0 (omega arith)))
    ∙ since_first met x k (record { within = omega arith; here = f.here; before = λ j l e. f.before (suc j) (omega arith) e })

pub first_among : (met : List ℕ) (x k : ℕ) → FirstAt met x k → among x met ≡ true
first_among met x k f = listed_among x met (get_or_listed met k x f.within f.here)

-- a search that finds none below the width answers the width
pub none_below : (width y : ℕ) → y ≤ width → None ≡ some_below width y → y ≡ width
none_below width y h e =
    elim (cases_lt y width) [
      | inr far ↦ omega arith
      | inl near ↦
          absurd (
          let t = cond-true (ltb y width) (Some y) None (lt-ltb y width near) in
          let z : ◌≡◌ {A = ℕ} 0 1 = cc in
          omega arith)
    ]

-- a walk whose whole answer is known has come to x and met those of a list, all below the width and none twice
pub record Turns (next : ℕ → ℕ) (width : ℕ) (whole : List ℕ) (met : List ℕ) (x : ℕ) : Type 0 where
  pub left : ℕ
  pub turns : length met + left ≡ suc width
  pub goes_on : whole ≡ walked_within next width left met x
  pub once : (i : ℕ) → pos met i ≤ 1
  pub few : (i : ℕ) → 1 ≤ pos met i → i < width

module _ (next : ℕ → ℕ) (width : ℕ) where
  pub turns_start : (x : ℕ) → Turns next width (walked_within next width (suc width) [] x) [] x
  turns_start x =
      record { left = suc width; turns = omega arith; goes_on = refl; once = λ i. omega arith; few = λ i l. absurd (omega arith) }

  module _ (whole : List ℕ) (met : List ℕ) (x : ℕ) (t : Turns next width whole met x) where
    -- a turn is left
    turn_is : (n : ℕ) × ((t.left ≡ suc n) × (whole ≡ walked_within next width (suc n) met x))
    turn_is = go t.left refl
      where
        go : (m : ℕ) → t.left ≡ m → (n : ℕ) × ((t.left ≡ suc n) × (whole ≡ walked_within next width (suc n) met x))
        go zero e = absurd (let s = t.turns in let r = once_short width met t.once t.few in omega arith)
        go (suc n) e = (n, (e, t.goes_on ∙ ap (λ (m : ℕ). walked_within next width m met x) e))

    -- the walk comes to one that is not below the width
    pub turns_outside : width ≤ x → [] ≡ whole
    turns_outside far = let s = turn_is in sym (s.1.1 ∙ cond-false {A = List ℕ} (ltb x width) _ [] (le-ltb x width far))

    -- it comes to one met before
    pub turns_twice : x < width → (k : ℕ) → FirstAt met x k → drop k met ≡ whole
    turns_twice near k f =
        let s = turn_is in
        sym (s.1.1 ∙ cond-true {A = List ℕ} (ltb x width) _ [] (lt-ltb x width near) ∙ cond-true {A = List ℕ} (among x met) (since x met) _ (first_among met x k f)
        ∙ since_first met x k f)

    module _ (near : x < width) (new : Nowhere met x) where
      once_more : (i : ℕ) → pos (met ++ (x ∷ [])) i ≤ 1
      once_more i =
          elim (cases_eq x i) [
            | inl e ↦
                let a = pos_step met x in
                let b = not_listed x met (nowhere_not_among met x new) in
                subst (λ (z : ℕ). pos (met ++ (x ∷ [])) z ≤ 1) e (omega arith)
            | inr d ↦ let a = pos_stay met x i d in let b = t.once i in omega arith
          ]

      few_more : (i : ℕ) → 1 ≤ pos (met ++ (x ∷ [])) i → i < width
      few_more i l =
          elim (cases_eq x i) [ inl e ↦ omega arith | inr d ↦ let a = pos_stay met x i d in t.few i (omega arith) ]

      -- it comes to a new one: the path is shorter than the width
      pub turns_short : length met < width
      turns_short = let a = once_short width (met ++ (x ∷ [])) once_more few_more in let b = length_push met x in omega arith

      -- and it goes on
      pub turns_on : Turns next width whole (met ++ (x ∷ [])) (next x)
      turns_on =
          let s = turn_is in
          record {
            left = s.0;
            turns = let a = s.1.0 in let b = t.turns in let c = length_push met x in omega arith;
            goes_on = s.1.1 ∙ cond-true {A = List ℕ} (ltb x width) _ [] (lt-ltb x width near) ∙ cond-false {A = List ℕ} (among x met) (since x met) _ (nowhere_not_among met x new);
            once = once_more;
            few = few_more;
          }
