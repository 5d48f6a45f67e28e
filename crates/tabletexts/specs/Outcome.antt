-- What reading comes to: something read, or the number of the first line that cannot be read.
use Rattle.std.specs.Prelude.{◌≡◌, ℕ, Ok, Err, Result}
use Rattle.tabletexts.specs.declared.parts.Unread.{Unread}
use Rattle.tabletexts.specs.declared.parts.Unread.TheVariants.{Line, Memory}

-- one reading and then another, joined; the first fault counts
abbrev pub then : {A B C : Type 0} → (A → B → C) → Result A ℕ → Result B ℕ → Result C ℕ
then f (Err n) s = Err n
then f (Ok x) (Err n) = Err n
then f (Ok x) (Ok y) = Ok (f x y)

-- the answer has what the text says, by the meaning f of what it holds; only a want of memory says nothing
abbrev pub Answers : {A V : Type 0} → (V → A) → Result A ℕ → Result V Unread → Type 0
Answers f says (Ok v) = says ≡ Ok (f v)
Answers f says (Err (Line n)) = says ≡ Err n
Answers f says (Err Memory) = Unit {0}
