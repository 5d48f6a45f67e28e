-- A drive, as a loop makes it.
use Rattle.std.proofs.Common.{◌≡◌, ℕ, suc, ◌+◌, ◌<◌, ◌≤◌, Bool, true, not, ◌&&◌, eqb, ltb, List, [], ◌∷◌, ◌++◌, length, get_or, drop, set, Some, None, Option, sym, refl, ap, ◌∙◌, subst, inl, inr, add-one, arith, drop-cons}
use mathlib.Core.Path.{fun_ext}
use Rattle.std.proofs.lemmas.List.{append_assoc, length_push, set_at}
use Rattle.std.proofs.lemmas.Bool.{cases_lt, lt-ltb, le-ltb, and_parts, cond-true, cond-false}
use Rattle.charts.specs.declared.parts.Event.{Event}
use Rattle.charts.specs.Lists.{event_of}
use Rattle.charts.specs.Sound.{Sound}
use Rattle.media.specs.Carry.{Carry}
use Rattle.orders.specs.Deciding.{unfinished, may_run_at, may_now_at}
use Rattle.orders.specs.Driving.{lowest, moved, moved_by, driven}
use Rattle.orders.proofs.Driving.{moved_by_push, driven_more, driven_stops}
use Rattle.rules.specs.declared.row.Row.{Row}
use Rattle.rules.specs.Places.{place_of}
use Rattle.rules.specs.declared.held.Held.{Held}
use Rattle.rules.specs.Held.{held_now, some_below}
use Rattle.rules.specs.Drove.{Wrote}

-- what a search found
pub below_some : (n i x : ℕ) → Some x ≡ some_below n i → (i ≡ x) × (x < n)
below_some n i x e =
    elim (cases_lt i n) [
      | inl l ↦ let t = cond-true (ltb i n) (Some i) None (lt-ltb i n l) in let s : i ≡ x = cc in (s, omega arith)
      | inr k ↦
          absurd (
          let t = cond-false (ltb i n) (Some i) None (le-ltb i n k) in
          let z : ◌≡◌ {A = ℕ} 0 1 = cc in
          omega arith)
    ]

pub below_none : (n i : ℕ) → None ≡ some_below n i → n ≤ i
below_none n i e =
    elim (cases_lt i n) [
      | inr k ↦ k
      | inl l ↦
          absurd (
          let t = cond-true (ltb i n) (Some i) None (lt-ltb i n l) in
          let z : ◌≡◌ {A = ℕ} 0 1 = cc in
          omega arith)
    ]

-- after k turns: k steps were made, and written
pub record Turns (test : (ℕ → ℕ) → ℕ → Bool) (width k : ℕ) (before now : List Row) (out out' : List ℕ) : Type 0 where
  pub all : length (driven test width k (place_of before)) ≡ k
  pub wrote : Wrote (driven test width k (place_of before)) before now out out'

module _ (test : (ℕ → ℕ) → ℕ → Bool) (width : ℕ) where
  pub turns_none : (rows : List Row) (out : List ℕ) → Turns test width 0 rows rows out out
  turns_none rows out = record { all = refl; wrote = record { places = λ j. omega arith; bytes = refl } }

  pub turns_more : (k : ℕ) (before now next : List Row) (out mid out' : List ℕ) (i : ℕ) → Turns test width k before now out mid → k < length out →
      lowest (test (place_of now)) width ≡ i → i < width → ((j : ℕ) → place_of next j ≡ moved (place_of now) i j) → out' ≡ set mid k i →
      Turns test width (k + 1) before next out out'
  turns_more k before now next out mid out' i so h is low moves written =
      let start = place_of before in
      let w = driven test width k start in
      let here : place_of now ≡ moved_by start w = fun_ext so.wrote.places in
      let d = driven_more test width k start w i refl (ap (λ (p : ℕ → ℕ). lowest (test p) width) (sym here) ∙ is) low in
      let n = length_push w i in
      let a = so.all in
      let more : length (w ++ (i ∷ [])) ≡ k + 1 = omega arith in
      record {
        all = ap length d ∙ more;
        wrote =
            subst (λ (v : List ℕ). Wrote v before next out out') (sym d)
            (record {
              places = λ j. moves j ∙ ap (λ (p : ℕ → ℕ). moved p i j) here ∙ ap (λ (p : ℕ → ℕ). p j) (moved_by_push start w i);
              bytes =
                  written ∙ ap (λ (xs : List ℕ). set xs k i) (so.wrote.bytes ∙ ap (λ (n : ℕ). w ++ drop n out) a ∙ ap (λ (xs : List ℕ). w ++ xs) (drop-cons out k 0 h))
                  ∙ set_at w (get_or out k 0) (drop (suc k) out) i k a ∙ sym (append_assoc w (i ∷ []) (drop (suc k) out))
                  ∙ ap (λ (n : ℕ). (w ++ (i ∷ [])) ++ drop n out) (sym (more ∙ add-one k));
            });
      }

  pub turns_stop : (k n : ℕ) (before now : List Row) (out mid : List ℕ) → Turns test width k before now out mid → k ≤ n → width ≤ lowest (test (place_of now)) width →
      (k ≡ length (driven test width n (place_of before))) × Wrote (driven test width n (place_of before)) before now out mid
  turns_stop k n before now out mid so h stop =
      let start = place_of before in
      let w = driven test width k start in
      let here : place_of now ≡ moved_by start w = fun_ext so.wrote.places in
      let d = driven_stops test width k n start w refl h (subst (λ (p : ℕ → ℕ). width ≤ lowest (test p) width) here stop) in
      let a = so.all in
      (sym (ap length d ∙ a), subst (λ (v : List ℕ). Wrote v before now out mid) (sym d) so.wrote)

  pub turns_all : (k : ℕ) (before now : List Row) (out mid : List ℕ) → Turns test width k before now out mid → k ≡ length out →
      (length out ≡ length (driven test width (length out) (place_of before))) × Wrote (driven test width (length out) (place_of before)) before now out mid
  turns_all k before now out mid so e =
      let a = so.all in
      subst (λ (n : ℕ). (n ≡ length (driven test width n (place_of before))) × Wrote (driven test width n (place_of before)) before now out mid) e (sym a, so.wrote)

-- an instance that may run has not finished
pub held_unfinished : (M : Carry) (L : List (List Event)) (held : Option Held) (p : ℕ → ℕ) (i : ℕ) → held_now M L held p i ≡ true → unfinished L p i ≡ true
held_unfinished M L None p i t = (and_parts (unfinished L p i) (may_run_at M L p i (event_of L i (p i))) t).0
held_unfinished M L (Some x) p i t =
    (and_parts (unfinished L p i) (may_run_at M L p i (event_of L i (p i))) (and_parts (may_now_at M L p i) (not (eqb i x.instance && eqb (p x.instance) x.event)) t).0).0

module _ (M : Carry) (L : List (List Event)) (held : Option Held) where
  -- what the search for the lowest answers in a chart with the lists K, at the rows
  abbrev Found : List (List Event) → List Row → Option ℕ
  Found K rows = some_below (length K) (lowest (held_now M K held (place_of rows)) (length K))

  -- one turn more
  pub turn_more : (K : List (List Event)) → L ≡ K → (k : ℕ) (before now next : List Row) (out mid : List ℕ) (i : ℕ) →
      Turns (held_now M L held) (length L) k before now out mid → k < length out → Some i ≡ Found K now → ((j : ℕ) → place_of next j ≡ moved (place_of now) i j) →
      Turns (held_now M L held) (length L) (k + 1) before next out (set mid k i)
  turn_more K same k before now next out mid i so h found moves =
      let f = below_some (length L) (lowest (held_now M L held (place_of now)) (length L)) i (subst (λ (X : List (List Event)). Some i ≡ Found X now) (sym same) found) in
      turns_more (held_now M L held) (length L) k before now next out mid (set mid k i) i so h f.0 f.1 moves refl

  -- none is left
  pub turn_stop : (K : List (List Event)) → L ≡ K → (now : List Row) → None ≡ Found K now → length L ≤ lowest (held_now M L held (place_of now)) (length L)
  turn_stop K same now =
      subst (λ (X : List (List Event)). None ≡ Found X now → length L ≤ lowest (held_now M L held (place_of now)) (length L)) same
      (below_none (length L) (lowest (held_now M L held (place_of now)) (length L)))

-- an instance's number fits a byte
pub fits_byte : (L : List (List Event)) → Sound L → (i x : ℕ) → Some i ≡ some_below (length L) x → i < 256
fits_byte L sound i x e = let f = below_some (length L) x i e in let low = f.1 in let few = sound.few_instances in omega arith
