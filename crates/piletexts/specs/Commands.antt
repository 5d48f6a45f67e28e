-- The command that a line writes: a word, and its operands, with one space between them.
use Rattle.std.specs.Prelude.{ℕ, zero, suc, cond, List, [], ◌∷◌, replicate, Some, None, codes, Option}
use Rattle.std.specs.Str.{bytes_eq}
use Rattle.tabletexts.specs.Table.{fields, number_in}
use Rattle.piletexts.specs.declared.parts.Command.{Command}
use Rattle.piletexts.specs.declared.parts.Command.TheVariants.{Table, Poll, After, Beside, Recast}

-- a command without operands
abbrev pub only_word : Command → List (List ℕ) → Option Command
only_word c [] = Some c
only_word c (f ∷ fs) = None

-- a poll by its keypads and rounds
abbrev pub poll_by : Option ℕ → Option ℕ → Option Command
poll_by None r = None
poll_by (Some n) None = None
poll_by (Some n) (Some r) = Some (Poll n r)

-- the poll in exactly two fields, of 8 bits each
abbrev pub poll_in : List (List ℕ) → Option Command
poll_in [] = None
poll_in (n ∷ []) = None
poll_in (n ∷ r ∷ []) = poll_by (number_in 255 n) (number_in 255 r)
poll_in (n ∷ r ∷ f ∷ fs) = None

-- a name before others
abbrev pub name_by : Option ℕ → Option (List ℕ) → Option (List ℕ)
name_by None ns = None
name_by (Some n) None = None
name_by (Some n) (Some ns) = Some (n ∷ ns)

-- the names of k instances, of 8 bits each, in at most k fields; those that are not given are 0
abbrev pub names_in : ℕ → List (List ℕ) → Option (List ℕ)
names_in k [] = Some (replicate k 0)
names_in zero (f ∷ fs) = None
names_in (suc k) (f ∷ fs) = name_by (number_in 255 f) (names_in k fs)

-- a recast by these names
abbrev pub recast_by : Option (List ℕ) → Option Command
recast_by None = None
recast_by (Some ns) = Some (Recast ns)

-- the command of a word with these operands
abbrev pub command_by : List ℕ → List (List ℕ) → Option Command
command_by w fs =
    cond (bytes_eq w (codes "table")) (only_word Table fs)
    (cond (bytes_eq w (codes "after")) (only_word After fs)
    (cond (bytes_eq w (codes "beside")) (only_word Beside fs)
    (cond (bytes_eq w (codes "poll")) (poll_in fs)
    (cond (bytes_eq w (codes "recast")) (recast_by (names_in 32 fs)) None))))

-- the command in the fields of a line
abbrev pub command_in : List (List ℕ) → Option Command
command_in [] = None
command_in (w ∷ fs) = command_by w fs

-- the command on a line
abbrev pub command_on : List ℕ → Option Command
command_on line = command_in (fields line)
