-- The operands of a word: none, one number or two.
use Rattle.std.specs.Prelude.{ℕ, List, [], ◌∷◌, Some, None, Option}
use Rattle.std.specs.Option.{option_zip}
use Rattle.tabletexts.specs.Table.{number_in}

-- x, where there is no operand
abbrev pub no_operand : {A : Type 0} → A → List (List ℕ) → Option A
no_operand x [] = Some x
no_operand x (f ∷ fs) = None

-- the number of at most m in exactly one field
abbrev pub one_number : ℕ → List (List ℕ) → Option ℕ
one_number m [] = None
one_number m (f ∷ []) = number_in m f
one_number m (f ∷ g ∷ fs) = None

-- the numbers of at most m and n in exactly two fields
abbrev pub two_numbers : ℕ → ℕ → List (List ℕ) → Option (ℕ × ℕ)
two_numbers m n [] = None
two_numbers m n (f ∷ []) = None
two_numbers m n (f ∷ g ∷ []) = option_zip (number_in m f) (number_in n g)
two_numbers m n (f ∷ g ∷ h ∷ fs) = None
