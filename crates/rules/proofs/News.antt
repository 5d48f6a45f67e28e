-- Rows of instances that have not stepped.
use Rattle.std.proofs.Common.{◌≡◌, ℕ, zero, suc, ◌<◌, length, get_or, replicate, refl, arith}
use Rattle.rules.specs.declared.row.Row.{Row}
use Rattle.rules.specs.Places.{no_row, place_of, sent_of}

abbrev new_row : Row
new_row = record { position = 0; sent = replicate 32 0 }

pub new_place : (n i : ℕ) → place_of (replicate n new_row) i ≡ 0
new_place zero i = refl
new_place (suc n) zero = refl
new_place (suc n) (suc i) = new_place n i

no_count : (n j : ℕ) → ◌≡◌ {A = ℕ} (get_or (replicate n 0) j 0) 0
no_count zero j = refl
no_count (suc n) zero = refl
no_count (suc n) (suc j) = no_count n j

pub new_sent : (n i j : ℕ) → sent_of (replicate n new_row) i j ≡ 0
new_sent zero i j = refl
new_sent (suc n) zero j = no_count 32 j
new_sent (suc n) (suc i) j = new_sent n i j

pub new_even : (n i : ℕ) → i < n → length (get_or (replicate n new_row) i no_row).sent ≡ 32
new_even zero i h = absurd (omega arith)
new_even (suc n) zero h = refl
new_even (suc n) (suc i) h = new_even n i (omega arith)
