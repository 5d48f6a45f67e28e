-- What the lines of a text make of a stack, or the number of the first line that cannot be read.
use Rattle.std.specs.Prelude.{◌≡◌, ℕ, ◌+◌, List, [], ◌∷◌, Some, None, Ok, Err, Result}
use Rattle.tabletexts.specs.declared.parts.Unread.{Unread}
use Rattle.tabletexts.specs.declared.parts.Unread.TheVariants.{Line, Memory}
use Rattle.piletexts.specs.Commands.{command_on}
use Rattle.piletexts.specs.declared.parts.Command.{Command}
use Rattle.piles.specs.Meanings.{Meaning}
use Rattle.piles.specs.Applied.{Standing, standing, applied}

-- the stack at the end; where it is empty, a chart is missing on line n
abbrev pub ended : ℕ → List Meaning → Result (List Meaning) ℕ
ended n [] = Err n
ended n (a ∷ S) = Ok (a ∷ S)

pub data Piled : Standing → Result (List Meaning) ℕ → Type 0 where
  -- no line is left
  end : (S : List Meaning) (n : ℕ) → Piled (standing S n []) (ended (n + 1) S)
  -- an empty line is passed over
  pass : (S : List Meaning) (n : ℕ) (ls : List (List ℕ)) (r : Result (List Meaning) ℕ) → Piled (standing S (n + 1) ls) r → Piled (standing S n ([] ∷ ls)) r
  -- a line that writes no command
  unknown : (S : List Meaning) (n b : ℕ) (bs : List ℕ) (ls : List (List ℕ)) → command_on (b ∷ bs) ≡ None → Piled (standing S n ((b ∷ bs) ∷ ls)) (Err (n + 1))
  -- a command that cannot be followed
  refused : (S : List Meaning) (n : ℕ) (l : List ℕ) (ls : List (List ℕ)) (c : Command) (k : ℕ) →
      command_on l ≡ Some c → applied c (standing S (n + 1) ls) ≡ Err k → Piled (standing S n (l ∷ ls)) (Err k)
  -- a command that is followed
  follow : (S : List Meaning) (n : ℕ) (l : List ℕ) (ls : List (List ℕ)) (c : Command) (s : Standing) (r : Result (List Meaning) ℕ) →
      command_on l ≡ Some c → applied c (standing S (n + 1) ls) ≡ Ok s → Piled s r → Piled (standing S n (l ∷ ls)) r

-- the answer is what the lines make, by the meaning f of what it holds; only a want of memory says nothing
abbrev pub Tells : {V : Type 0} → (V → List Meaning) → Standing → Result V Unread → Type 0
Tells f s (Ok v) = Piled s (Ok (f v))
Tells f s (Err (Line n)) = Piled s (Err n)
Tells f s (Err Memory) = Unit {0}
