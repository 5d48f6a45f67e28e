-- Lists of one length, one after another: their length, and what stands where.
use Rattle.std.proofs.Common.{◌≡◌, ℕ, zero, suc, ◌+◌, ◌-◌, ◌*◌, ◌<◌, List, length, get_or, sym, ap, ◌∙◌, inl, inr, suc-mul, zero-mul, arith}
use lib.Arith.{digits_lt}
use Rattle.std.proofs.lemmas.List.{length-append, get_or_append_left, get_or-append_right}
use Rattle.std.proofs.lemmas.Bool.{cases_lt}
use Rattle.polling.specs.InTurn.{in_turn}

pub length_in_turn : {A : Type 0} (c : ℕ) (f : ℕ → List A) → ((t : ℕ) → length (f t) ≡ c) → (n : ℕ) → length (in_turn n f) ≡ n * c
length_in_turn c f h zero = sym (zero-mul c)
length_in_turn c f h (suc n) = omega (arith, length-append (in_turn n f) (f n), length_in_turn c f h n, h n, suc-mul n c)

pub get_or_in_turn : {A : Type 0} (c : ℕ) (f : ℕ → List A) → ((t : ℕ) → length (f t) ≡ c) → (d : A) (n t s : ℕ) → t < n → s < c → get_or (in_turn n f) (t * c + s) d ≡ get_or (f t) s d
get_or_in_turn c f h d zero t s below within = absurd (omega arith)
get_or_in_turn c f h d (suc n) t s below within =
    let all = length_in_turn c f h n in
    elim (cases_lt t n) [
      | inl l ↦
          let front = digits_lt {q = t} {m = n} {r = s} {c = c} l within in
          get_or_append_left (in_turn n f) (f n) d (t * c + s) (omega arith) ∙ get_or_in_turn c f h d n t s l within
      | inr l ↦
          let last : t ≡ n = omega arith in
          let rows : t * c ≡ n * c = ap (λ (m : ℕ). m * c) last in
          let rest : t * c + s - n * c ≡ s = omega arith in
          get_or-append_right (in_turn n f) (f n) (n * c) (t * c + s) d all (omega arith) ∙ cc
    ]
