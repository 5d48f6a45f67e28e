-- Where the first event of a kind and number stands.
use Rattle.std.proofs.Common.{◌≡◌, ℕ, zero, suc, ◌<◌, ◌≤◌, Bool, true, false, cond, eqb, List, [], ◌∷◌, length, get_or, refl, ap, arith}
use Rattle.std.proofs.lemmas.Bool.{eq-eqb, eqb-true, and_from, and_parts}
use Rattle.charts.specs.declared.parts.Event.{Event}
use Rattle.charts.specs.Events.{no_event}
use Rattle.checks.specs.Rules.{is_of, first_place}

module _ (a m : ℕ) where
  pub of_yes : (e : Event) → e.kind ≡ a → e.number ≡ m → is_of a m e ≡ true
  of_yes e k n = and_from (eqb e.kind a) (eqb e.number m) (eq-eqb e.kind a k) (eq-eqb e.number m n)

  pub of_from : (e : Event) → is_of a m e ≡ true → (e.kind ≡ a) × (e.number ≡ m)
  of_from e t =
      let p = and_parts (eqb e.kind a) (eqb e.number m) t in
      (eqb-true e.kind a p.0, eqb-true e.number m p.1)

  head_bound : (t : Bool) (n k : ℕ) → n ≤ k → cond t 0 (suc n) ≤ suc k
  head_bound true n k h = omega arith
  head_bound false n k h = omega arith

  pub first_bound : (es : List Event) → first_place a m es ≤ length es
  first_bound [] = omega arith
  first_bound (e ∷ es) = head_bound (is_of a m e) (first_place a m es) (length es) (first_bound es)

  pub first_is : (es : List Event) → first_place a m es < length es → is_of a m (get_or es (first_place a m es) no_event) ≡ true
  first_is [] h = absurd (omega arith)
  first_is (e ∷ es) h = go (is_of a m e) refl h (first_is es)
    where
      go : (t : Bool) → is_of a m e ≡ t → cond t 0 (suc (first_place a m es)) < suc (length es) →
          (first_place a m es < length es → is_of a m (get_or es (first_place a m es) no_event) ≡ true) →
          is_of a m (get_or (e ∷ es) (cond t 0 (suc (first_place a m es))) no_event) ≡ true
      go true t h r = t
      go false t h r = r (omega arith)

  pub first_least : (es : List Event) (p : ℕ) → p < length es → is_of a m (get_or es p no_event) ≡ true → first_place a m es ≤ p
  first_least [] p h y = absurd (omega arith)
  first_least (e ∷ es) zero h y = let r = ap (λ (t : Bool). cond t 0 (suc (first_place a m es))) y in omega arith
  first_least (e ∷ es) (suc p) h y = head_bound (is_of a m e) (first_place a m es) p (first_least es p (omega arith) y)
