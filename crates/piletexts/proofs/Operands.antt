-- Operands past the last one.
use Rattle.std.proofs.Common.{◌≡◌, ℕ, true, List, ◌∷◌, is_some, Some, None, Option, sym, ap, ◌∙◌, arith, Bor}
use Rattle.tabletexts.specs.Pieces.{pieces_after}
use Rattle.tabletexts.proofs.Turns.{some_piece}
use Rattle.piletexts.specs.declared.parts.Command.{Command}
use Rattle.piletexts.specs.Commands.{only_word, poll_in}

-- three fields or more are no poll
pub three_fields : (n r : List ℕ) (s : ℕ) (o : Option (Bor (List ℕ))) → is_some o ≡ true → poll_in (n ∷ r ∷ pieces_after s o) ≡ None
three_fields n r s None h = absurd (let z : ◌≡◌ {A = ℕ} 0 1 = cc in omega arith)
three_fields n r s (Some rest) h = ap (λ (fs : List (List ℕ)). poll_in (n ∷ r ∷ fs)) (some_piece s rest.now).2

-- a word that stands alone has none
pub no_field : (command : Command) (s : ℕ) (o : Option (Bor (List ℕ))) (rest : Bor (List ℕ)) → o ≡ Some rest → None ≡ only_word command (pieces_after s o)
no_field command s o rest is =
    sym (ap (λ (p : Option (Bor (List ℕ))). only_word command (pieces_after s p)) is ∙ ap (only_word command) (some_piece s rest.now).2)
