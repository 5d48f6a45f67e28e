-- What a byte of a chart text is.
use Rattle.std.specs.Prelude.{ℕ, Bool, cond, ◌&&◌, ◌||◌, ◌==◌, nat_le}
use Rattle.words.specs.declared.classes.Class.{Class}
use Rattle.words.specs.declared.classes.Class.TheVariants.{Word, Blank, Semicolon, Other}

-- a byte from a to z, both among them
abbrev pub from_to : ℕ → ℕ → ℕ → Bool
from_to a z b = nat_le a b && nat_le b z

-- letters, digits and underscores stand in words
abbrev pub in_word : ℕ → Bool
in_word b = (from_to 97 122 b || from_to 65 90 b) || (from_to 48 57 b || b == 95)

-- spaces, tabs, line feeds and carriage returns are blanks
abbrev pub is_blank : ℕ → Bool
is_blank b = (b == 32 || b == 9) || (b == 10 || b == 13)

-- a byte stands in a word, is a blank or a semicolon, or is not allowed
abbrev pub class_of : ℕ → Class
class_of b = cond (in_word b) Word (cond (is_blank b) Blank (cond (b == 59) Semicolon Other))
