-- A set of instances, by its bits.
use Rattle.std.proofs.Common.{◌≡◌, ℕ, ◌^◌, ◌%◌, ◌-◌, ◌*◌, ◌<◌, Bool, true, false, not, ◌&&◌, ◌||◌, eqb, bit_and, bit_or, w32, sym, refl, ap, ◌∙◌, inl, inr, arith}
use Rattle.std.specs.Int.{bit_at, trailing_zeros}
use Rattle.std.proofs.lemmas.Nat.{and_le_l}
use Rattle.std.proofs.lemmas.Nat.Bits.{bit_at_ones, bit_at_set_same, bit_at_set_other, bit_at_clear_same, bit_at_clear_other, bit_at-trailing_zeros}
use Rattle.std.proofs.lemmas.Bool.{cases_eq, eq-eqb, ne_eqb, both_ways}

abbrev pub set : ℕ → ℕ → Bool
set n i = eqb (bit_at n i) 1

pub all_set : (i : ℕ) → i < 32 → set 4294967295 i ≡ true
all_set i l = eq-eqb (bit_at 4294967295 i) 1 (bit_at_ones 32 i l)

or_false : (b : Bool) → b ≡ (b || false)
or_false true = refl
or_false false = refl

or_true : (b : Bool) → true ≡ (b || true)
or_true true = refl
or_true false = refl

and_true : (b : Bool) → b ≡ (b && true)
and_true true = refl
and_true false = refl

and_false : (b : Bool) → false ≡ (b && false)
and_false true = refl
and_false false = refl

pub insert_set : (n i j : ℕ) → i < 32 → j < 32 → set (bit_or n (1 * 2 ^ i % 4294967296)) j ≡ (set n j || eqb j i)
insert_set n i j l m =
    elim (cases_eq j i) [
      | inl same ↦
          ap (set (bit_or n (1 * 2 ^ i % 4294967296))) same ∙ eq-eqb (bit_at (bit_or n (1 * 2 ^ i % 4294967296)) i) 1 (bit_at_set_same w32 n i l)
          ∙ or_true (set n j) ∙ ap (λ (b : Bool). set n j || b) (sym (eq-eqb j i same))
      | inr other ↦
          ap (λ (x : ℕ). eqb x 1) (bit_at_set_other w32 n i l j other) ∙ or_false (set n j) ∙ ap (λ (b : Bool). set n j || b) (sym (ne_eqb j i other))
    ]

abbrev cleared : ℕ → ℕ → ℕ
cleared n i = bit_and n (4294967295 - 1 * 2 ^ i % 4294967296)

clear_same : (n i : ℕ) → i < 32 → set (cleared n i) i ≡ false
clear_same n i l = let z = bit_at_clear_same w32 n i l in ne_eqb (bit_at (cleared n i) i) 1 (omega arith)

pub remove_set : (n i j : ℕ) → i < 32 → j < 32 → set (cleared n i) j ≡ (set n j && not (eqb j i))
remove_set n i j l m =
    elim (cases_eq j i) [
      | inl same ↦
          ap (set (cleared n i)) same ∙ clear_same n i l ∙ and_false (set n j) ∙ ap (λ (b : Bool). set n j && not b) (sym (eq-eqb j i same))
      | inr other ↦
          ap (λ (x : ℕ). eqb x 1) (bit_at_clear_other w32 n i l j m other) ∙ and_true (set n j) ∙ ap (λ (b : Bool). set n j && not b) (sym (ne_eqb j i other))
    ]

pub remove_less : (n i : ℕ) → i < 32 → set n i ≡ true → cleared n i < n
remove_less n i l t =
    let most = and_le_l n (4294967295 - 1 * 2 ^ i % 4294967296) in
    elim (cases_eq (cleared n i) n) [
      | inl same ↦ absurd (both_ways (set n i) (ap (λ (x : ℕ). set x i) (sym same) ∙ clear_same n i l) t)
      | inr other ↦ omega (arith, other)
    ]

pub lowest_set : (n : ℕ) → 0 < n → n < 4294967296 →
    (trailing_zeros w32 n < 32) × (set n (trailing_zeros w32 n) ≡ true) × ((j : ℕ) → j < trailing_zeros w32 n → set n j ≡ false)
lowest_set n some fits =
    let r = bit_at-trailing_zeros w32 n some fits in
    (r.0, eq-eqb (bit_at n (trailing_zeros w32 n)) 1 r.1, λ j l. let z = r.2 j l in ne_eqb (bit_at n j) 1 (omega arith))
