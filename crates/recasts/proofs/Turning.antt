-- A table of names against std's words: the first place of a name, and the test for a permutation.
use Rattle.std.proofs.Common.{◌≡◌, ℕ, zero, suc, ◌+◌, ◌<◌, ◌≤◌, ◌⊎◌, Bool, true, false, eqb, ltb, List, [], ◌∷◌, length, take, get_or, unwrap_or, position, sym, subst, inl, inr, cond, not, refl, ap, ◌∙◌, arith}
use Rattle.std.specs.List.{list_all, position_or_len}
use Rattle.std.proofs.lemmas.List.{length-take-le, get_or-take, get_or_default}
use Rattle.std.proofs.lemmas.List.Sums.{prefix_len-le-length, passes_at_first, AllPass-from_list_all, list_all-from_AllPass}
use Rattle.std.proofs.lemmas.Bool.{cases_eq, cases_lt, cond-true, cond-false, eq-eqb, ne_eqb, eqb-true, ltb-true, lt-ltb}
use Rattle.std.proofs.lemmas.Bool.Decides.{same_from_decides}
use Rattle.std.proofs.lemmas.Grind.{common_steps}
use Rattle.std.specs.Fn.{Called}
use Rattle.std.specs.Array.{IsFromFnResultFrom}
use denote.Param.Members.{Mut}
use Rattle.joining.specs.Recast.{to, from, turns_below, Permutes}
use Rattle.joining.proofs.Recasts.{permutes_from, permutes_yes, from_within}

place_from : (t : List ℕ) (j : ℕ) → position_or_len (λ x. eqb x j) t ≡ from t j
place_from [] j = refl
place_from (x ∷ t) j = go (eqb x j) (place_from t j)
  where
    go : (b : Bool) → position_or_len (λ y. eqb y j) t ≡ from t j → cond (not b) (1 + position_or_len (λ y. eqb y j) t) 0 ≡ cond b 0 (suc (from t j))
    go true e = refl
    go false e = omega arith

-- the first place of a name, 32 where no instance has it
pub position_from : (t : List ℕ) (j : ℕ) → length t ≡ 32 → unwrap_or (position (λ x. eqb x j) t) 32 ≡ from t j
position_from t j n =
    let e = place_from t j in
    let most = prefix_len-le-length (λ x. not (eqb x j)) t in
    grind (arith, common_steps)

pub from_most : (t : List ℕ) (j : ℕ) → from t j ≤ length t
from_most t j = let e = place_from t j in let most = prefix_len-le-length (λ x. not (eqb x j)) t in omega arith

-- an instance that is found has the name
found_named : (t : List ℕ) (j : ℕ) → from t j < length t → to t (from t j) ≡ j
found_named t j l =
    let e = place_from t j in
    let named = passes_at_first (λ x. eqb x j) t 0 (omega arith) in
    ap (to t) (sym e) ∙ eqb-true (to t (position_or_len (λ x. eqb x j) t)) j named

-- f with its last number in the place of w
abbrev filled : (ℕ → ℕ) → ℕ → ℕ → ℕ
filled f w i = cond (eqb (f i) w) (f (suc w)) (f i)

filled_is : (f : ℕ → ℕ) (w i : ℕ) → ((f i ≡ w) × (filled f w i ≡ f (suc w))) ⊎ ((f i ≡ w → ⊥) × (filled f w i ≡ f i))
filled_is f w i =
    elim (cases_eq (f i) w) [
      | inl e ↦ inl (e, cond-true (eqb (f i) w) (f (suc w)) (f i) (eq-eqb (f i) w e))
      | inr n ↦ inr (n, cond-false (eqb (f i) w) (f (suc w)) (f i) (ne_eqb (f i) w n))
    ]

-- of w + 1 numbers below w two are the same
crowded : (w : ℕ) (f : ℕ → ℕ) → ((i : ℕ) → i ≤ w → f i < w) → ((i j : ℕ) → i ≤ w → j ≤ w → f i ≡ f j → i ≡ j) → ⊥
crowded zero f low apart = let l = low 0 (omega arith) in omega arith
crowded (suc w) f low apart = crowded w (filled f w) filled_low filled_apart
  where
    filled_low : (i : ℕ) → i ≤ w → filled f w i < w
    filled_low i l =
        let a = low i (omega arith) in
        let b = low (suc w) (omega arith) in
        elim (filled_is f w i) [
          | inl e ↦ let e0 = e.0 in let e1 = e.1 in let n : f (suc w) ≡ w → ⊥ = λ s. let z = apart i (suc w) (omega arith) (omega arith) (e.0 ∙ sym s) in omega arith in omega arith
          | inr e ↦ let e0 = e.0 in let e1 = e.1 in omega arith
        ]

    filled_apart : (i j : ℕ) → i ≤ w → j ≤ w → filled f w i ≡ filled f w j → i ≡ j
    filled_apart i j l m e =
        elim (filled_is f w i) [
          | inl p ↦ elim (filled_is f w j) [
            | inl q ↦ apart i j (omega arith) (omega arith) (p.0 ∙ sym q.0)
            | inr q ↦ let z = apart (suc w) j (omega arith) (omega arith) (sym p.1 ∙ e ∙ q.1) in absurd (omega arith)
          ]
          | inr p ↦ elim (filled_is f w j) [
            | inl q ↦ let z = apart i (suc w) (omega arith) (omega arith) (sym p.1 ∙ e ∙ q.1) in absurd (omega arith)
            | inr q ↦ apart i j (omega arith) (omega arith) (sym p.1 ∙ e ∙ q.1)
          ]
        ]

-- t finds each of w names among the first w instances
module _ (t : List ℕ) (w : ℕ) (long : w ≤ length t) (found : (j : ℕ) → j < w → from t j < w) where
  named : (j : ℕ) → j < w → to t (from t j) ≡ j
  named j l = let b = found j l in found_named t j (omega arith)

  -- the first instances of the w names, and one more
  abbrev with_one : ℕ → ℕ → ℕ
  with_one i k = cond (eqb k w) i (from t k)

  with_one_is : (i k : ℕ) → k ≤ w → ((k ≡ w) × (with_one i k ≡ i)) ⊎ ((k < w) × (with_one i k ≡ from t k))
  with_one_is i k l =
      elim (cases_eq k w) [
        | inl e ↦ inl (e, cond-true (eqb k w) i (from t k) (eq-eqb k w e))
        | inr n ↦ inr (omega arith, cond-false (eqb k w) i (from t k) (ne_eqb k w n))
      ]

  -- each of the first w instances is found
  met : (i : ℕ) → i < w → ((j : ℕ) → j < w → from t j ≡ i → ⊥) → ⊥
  met i l never =
      crowded w (with_one i)
      (λ k m. elim (with_one_is i k m) [
        | inl e ↦ let e1 = e.1 in omega arith
        | inr e ↦ let e1 = e.1 in let b = found k e.0 in omega arith
      ])
      (λ k j m n s. elim (with_one_is i k m) [
        | inl p ↦ elim (with_one_is i j n) [
          | inl q ↦ p.0 ∙ sym q.0
          | inr q ↦ absurd (never j q.0 (sym q.1 ∙ sym s ∙ p.1))
        ]
        | inr p ↦ elim (with_one_is i j n) [
          | inl q ↦ absurd (never k p.0 (sym p.1 ∙ s ∙ q.1))
          | inr q ↦ sym (named k p.0) ∙ ap (to t) (sym p.1 ∙ s ∙ q.1) ∙ named j q.0
        ]
      ])

  placed : (i : ℕ) → i < w → (to t i < w) × (from t (to t i) ≡ i)
  placed i l =
      elim (cases_lt (to t i) w) [
        | inl b ↦ elim (cases_eq (from t (to t i)) i) [
          | inl e ↦ (b, e)
          | inr n ↦ absurd (met i l (λ j m e. n (ap (from t) (ap (to t) (sym e) ∙ named j m) ∙ e)))
        ]
        | inr b ↦ absurd (met i l (λ j m e. let z : to t i ≡ j = ap (to t) (sym e) ∙ named j m in omega arith))
      ]

  permutes_found : Permutes t w
  permutes_found =
      record {
        within = λ i l. (placed i l).0;
        apart = λ i j l m e. sym (placed i l).1 ∙ ap (from t) e ∙ (placed j m).1;
        onto = λ j l. (from t j, found j l, named j l);
      }

-- the test of the names back decides whether t permutes the first w instances
pub found_turns : (t b : List ℕ) (w : ℕ) → length t ≡ 32 → length b ≡ 32 → w ≤ 32 → ((j : ℕ) → j < 32 → get_or b j 0 ≡ from t j) → list_all (λ x. ltb x w) (take w b) ≡ turns_below t w w
found_turns t b w n m few inverse =
    same_from_decides {P = (j : ℕ) → j < w → from t j < w} (list_all (λ x. ltb x w) (take w b)) (turns_below t w w) (
      λ e j l. let a = at j 0 l in let z = size in let c = ltb-true (get_or (take w b) j 0) w (AllPass-from_list_all (λ x. ltb x w) (take w b) e j 0 (omega arith)) in omega arith,
      λ h. list_all-from_AllPass (λ x. ltb x w) (take w b) (λ j d l. let z = size in let a = at j d (omega arith) in let c = h j (omega arith) in lt-ltb (get_or (take w b) j d) w (omega arith)),
    )
    (λ e. from_within t w (permutes_from t w (omega arith) e) (omega arith), λ h. permutes_yes t w (omega arith) (permutes_found t w (omega arith) h))
  where
    size : length (take w b) ≡ w
    size = length-take-le w b (omega arith)

    at : (j d : ℕ) → j < w → get_or (take w b) j d ≡ from t j
    at j d l = get_or-take w b j d l ∙ get_or_default b j d 0 (omega arith) ∙ inverse j (omega arith)

-- what each call of `from_fn` gave, where the calls leave the closure as it was
pub from_fn_each : {F B : Type 0} (g : Mut F (ℕ × Unit {0}) B) (f : F) (ys : List B) (P : ℕ → B → Type 0) → ((i : ℕ) (y : B) (q : F) → Called g f (i, tt) y q → (q ≡ f) × P i y) →
    (i n : ℕ) → IsFromFnResultFrom g f ys i n → (k : ℕ) (d : B) → i ≤ k → k < i + n → P k (get_or ys k d)
from_fn_each {F = F} g f ys P h i zero each k d low high = absurd (omega arith)
from_fn_each {F = F} g f ys P h i (suc n) each k d low high =
    let call = h i each.1 each.0 each.3 in
    elim (cases_eq i k) [
      | inl here ↦ subst (λ (m : ℕ). P m (get_or ys m d)) here (subst (P i) (sym (each.2.1 d)) call.1)
      | inr other ↦ from_fn_each g f ys P h (i + 1) n (subst (λ (q : F). IsFromFnResultFrom g q ys (i + 1) n) call.0 each.4) k d (omega arith) (omega arith)
    ]
