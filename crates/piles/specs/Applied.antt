-- What a command does to a stack and to the lines behind it.
use Rattle.std.specs.Prelude.{ℕ, List, ◌∷◌, Some, None, Ok, Err, Option, Result}
use Rattle.tabletexts.specs.Table.{Table}
use Rattle.piletexts.specs.Blocks.{UpTo, table_until}
use Rattle.piletexts.specs.declared.parts.Command.{Command}
use Rattle.piletexts.specs.declared.parts.Command.TheVariants.{Table as TableCommand, Poll, After, Beside, Recast}
use Rattle.piles.specs.Meanings.{Meaning, after_meaning, beside_meaning, poll_meaning, recast_meaning, table_meaning}
use Rattle.piles.specs.Stack.{join_two, turn_one}

-- a stack, the number of the line that was read last, and the lines that are left
pub record Standing : Type 0 where
  pub stack : List Meaning
  pub number : ℕ
  pub lines : List (List ℕ)

-- the stack S at line n, with these lines behind it
abbrev pub standing : List Meaning → ℕ → List (List ℕ) → Standing
standing S n ls = record { stack = S; number = n; lines = ls }

-- the table that was found is put on
abbrev pub tabled : List Meaning → Result (UpTo Table) ℕ → Result Standing ℕ
tabled S (Err n) = Err n
tabled S (Ok u) = Ok (standing (table_meaning u.found.lengths u.found.events ∷ S) u.number u.behind)

-- the new stack; where there is none, the line that was read last cannot be read
abbrev pub stacked : Standing → Option (List Meaning) → Result Standing ℕ
stacked s None = Err s.number
stacked s (Some S) = Ok (standing S s.number s.lines)

-- what comes of a command, or the number of the line that cannot be read
abbrev pub applied : Command → Standing → Result Standing ℕ
applied TableCommand s = tabled s.stack (table_until s.number s.lines)
applied (Poll n r) s = stacked s (Some (poll_meaning n r ∷ s.stack))
applied After s = stacked s (join_two after_meaning s.stack)
applied Beside s = stacked s (join_two beside_meaning s.stack)
applied (Recast t) s = stacked s (turn_one (recast_meaning t) s.stack)
