-- Operands past the last one.
use Rattle.std.proofs.Common.{◌≡◌, ℕ, true, List, ◌∷◌, is_some, Some, None, Option, sym, ap, ◌∙◌, arith, Bor}
use Rattle.tabletexts.specs.Pieces.{pieces_after}
use Rattle.tabletexts.proofs.Turns.{some_piece}
use Rattle.scripts.specs.Operands.{no_operand, one_number, two_numbers}

-- a word that stands alone has none
pub no_field : {A : Type 0} (x : A) (s : ℕ) (o : Option (Bor (List ℕ))) (rest : Bor (List ℕ)) → o ≡ Some rest → None ≡ no_operand x (pieces_after s o)
no_field x s o rest is =
    sym (ap (λ (p : Option (Bor (List ℕ))). no_operand x (pieces_after s p)) is ∙ ap (no_operand x) (some_piece s rest.now).2)

-- two fields or more are no single number
pub two_fields : (m : ℕ) (f : List ℕ) (s : ℕ) (o : Option (Bor (List ℕ))) → is_some o ≡ true → one_number m (f ∷ pieces_after s o) ≡ None
two_fields m f s None h = absurd (let z : ◌≡◌ {A = ℕ} 0 1 = cc in omega arith)
two_fields m f s (Some rest) h = ap (λ (fs : List (List ℕ)). one_number m (f ∷ fs)) (some_piece s rest.now).2

-- three fields or more are no two numbers
pub three_fields : (m n : ℕ) (f g : List ℕ) (s : ℕ) (o : Option (Bor (List ℕ))) → is_some o ≡ true → two_numbers m n (f ∷ g ∷ pieces_after s o) ≡ None
three_fields m n f g s None h = absurd (let z : ◌≡◌ {A = ℕ} 0 1 = cc in omega arith)
three_fields m n f g s (Some rest) h = ap (λ (fs : List (List ℕ)). two_numbers m n (f ∷ g ∷ fs)) (some_piece s rest.now).2
