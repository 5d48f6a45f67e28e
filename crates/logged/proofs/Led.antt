-- The entries that some bytes begin with, one after another.
use Rattle.std.proofs.Common.{◌≡◌, ℕ, suc, ◌+◌, ◌-◌, ◌<◌, List, [], ◌∷◌, ◌++◌, sym, subst, append_assoc, append-nil, arith}
use Rattle.records.specs.declared.parts.Entry.{Entry}
use Rattle.records.specs.declared.parts.Record.TheVariants.{Entry as entry}
use Rattle.records.specs.Records.{entry_bytes}
use Rattle.records.specs.Reading.{BeginsWith}
use Rattle.logged.specs.Leading.{Leading, enough, over, more}

-- the entries that were met, with what is then left of the bytes
abbrev pub Led : ℕ → List ℕ → ℕ → List ℕ → List ℕ → Type 0
Led most bytes k met rest = (w : List ℕ) → Leading (most - k) rest w → Leading most bytes (met ++ w)

-- one entry more
pub led_more : (most : ℕ) (bytes : List ℕ) (k : ℕ) (met rest : List ℕ) → k < most → (x : Entry) (left : List ℕ) → rest ≡ entry_bytes x ++ left → Led most bytes k met rest → Led most bytes (k + 1) (met ++ (x.instance ∷ [])) left
led_more most bytes k met rest short x left is led w h =
    let count : suc (most - (k + 1)) ≡ most - k = omega arith in
    subst (Leading most bytes) (sym (append_assoc met (x.instance ∷ []) w))
    (led (x.instance ∷ w) (subst (λ (n : ℕ). Leading n rest (x.instance ∷ w)) count (more (most - (k + 1)) rest x left w is h)))

-- all were met
pub led_enough : (most : ℕ) (bytes : List ℕ) (k : ℕ) (met rest : List ℕ) → k ≡ most → Led most bytes k met rest → Leading most bytes met
led_enough most bytes k met rest is led =
    let count : 0 ≡ most - k = omega arith in
    subst (Leading most bytes) (append-nil met) (led [] (subst (λ (n : ℕ). Leading n rest []) count (enough rest)))

-- no entry follows
pub led_over : (most : ℕ) (bytes : List ℕ) (k : ℕ) (met rest : List ℕ) → ((x : Entry) → BeginsWith rest (entry x) → ⊥) → Led most bytes k met rest → Leading most bytes met
led_over most bytes k met rest none led = subst (Leading most bytes) (append-nil met) (led [] (over (most - k) rest none))
