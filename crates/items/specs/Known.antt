-- What an index knows of the names that were read.
use Rattle.std.specs.Prelude.{◌≡◌, ℕ, ◌<◌, true, List, is_some}
use Rattle.names.specs.Numbers.{Numbers, number_of, count}
use Rattle.words.specs.Sentences.{Placed}
use Rattle.sentences.specs.Wants.{among}

-- it has no other names than these, and where it is not full all of them
pub record Knows (numbers : Numbers) (ns : List Placed) : Type 0 where
  pub only : (q : List ℕ) → is_some (number_of numbers q) ≡ true → among ns q ≡ true
  pub all : count numbers < 4096 → (q : List ℕ) → among ns q ≡ true → is_some (number_of numbers q) ≡ true
