-- The operand of a log.
use Rattle.std.proofs.Common.{◌≡◌, ℕ, ◌<◌, Bool, true, false, cond, List, [], ◌∷◌, length, is_some, Some, None, Option, Bor, refl, sym, ap, ◌∙◌, arith}
use Rattle.tabletexts.specs.Pieces.{pieces_after}
use Rattle.tabletexts.proofs.Turns.{some_piece}
use Rattle.scripts.specs.Hex.{all_digits, bytes_of}
use Rattle.scripts.specs.Statements.{log_in}

more_fields : (f : List ℕ) (g : List ℕ) (fs : List (List ℕ)) → log_in (f ∷ g ∷ fs) ≡ None
more_fields [] g fs = refl
more_fields (b ∷ bs) g fs = refl

-- two fields or more write no log
pub two_fields : (f : List ℕ) (s : ℕ) (o : Option (Bor (List ℕ))) → is_some o ≡ true → None ≡ log_in (f ∷ pieces_after s o)
two_fields f s None h = absurd (let z : ◌≡◌ {A = ℕ} 0 1 = cc in omega arith)
two_fields f s (Some rest) h = sym (ap (λ (fs : List (List ℕ)). log_in (f ∷ fs)) (some_piece s rest.now).2 ∙ more_fields f _ _)

-- an empty field writes none
pub no_digits : (f : List ℕ) (fs : List (List ℕ)) → length f ≡ 0 → None ≡ log_in (f ∷ fs)
no_digits [] fs h = refl
no_digits (b ∷ bs) fs h = absurd (omega arith)

-- nor does a field that has not only digits
pub bad_digits : (f : List ℕ) → all_digits f ≡ false → None ≡ log_in (f ∷ [])
bad_digits [] h = refl
bad_digits (b ∷ bs) h = sym (ap (λ (x : Bool). cond x (Some (bytes_of (b ∷ bs))) None) h)

-- one that has only digits does
pub good_digits : (f : List ℕ) → 0 < length f → all_digits f ≡ true → Some (bytes_of f) ≡ log_in (f ∷ [])
good_digits [] l h = absurd (omega arith)
good_digits (b ∷ bs) l h = sym (ap (λ (x : Bool). cond x (Some (bytes_of (b ∷ bs))) None) h)
