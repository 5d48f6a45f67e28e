-- The rows of a table.
use Rattle.std.specs.Prelude.{ℕ, ◌-◌, List, ◌++◌, length, replicate}
use Rattle.words.specs.Sentences.{Placed}
use Rattle.texts.specs.declared.rows.Name.{Name}

-- the rows xs of a table of n rows, and the row z in those that are not used
abbrev pub padded : {T : Type 0} → T → ℕ → List T → List T
padded z n xs = xs ++ replicate (n - length xs) z

-- a name that is not used
abbrev pub no_name : Name
no_name = record { start = 0; length = 0 }

-- a name by its place and its length
abbrev pub row_of : Placed → Name
row_of p = record { start = p.start; length = length p.bytes }
