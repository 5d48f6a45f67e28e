-- What the class of a byte tells of it.
use Rattle.std.proofs.Common.{◌≡◌, ℕ, Bool, true, false, cond, ◌==◌, refl, sym, subst}
use Rattle.words.specs.declared.classes.Class.{Class}
use Rattle.words.specs.declared.classes.Class.TheVariants.{Word, Blank, Semicolon, Other}
use Rattle.words.specs.Classes.{in_word, is_blank, class_of}

-- the tests of a byte that has a class
abbrev pub Tests : Bool → Bool → Bool → Class → Type 0
Tests a b c Word = a ≡ true
Tests a b c Blank = (a ≡ false) × (b ≡ true)
Tests a b c Semicolon = (a ≡ false) × (b ≡ false) × (c ≡ true)
Tests a b c Other = (a ≡ false) × (b ≡ false) × (c ≡ false)

tests : (a b c : Bool) → Tests a b c (cond a Word (cond b Blank (cond c Semicolon Other)))
tests true b c = refl
tests false true c = (refl, refl)
tests false false true = (refl, refl, refl)
tests false false false = (refl, refl, refl)

pub class_tells : (b : ℕ) (x : Class) → x ≡ class_of b → Tests (in_word b) (is_blank b) (b == 59) x
class_tells b x is = subst (Tests (in_word b) (is_blank b) (b == 59)) (sym is) (tests (in_word b) (is_blank b) (b == 59))
