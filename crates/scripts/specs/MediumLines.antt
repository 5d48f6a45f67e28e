-- The command to a medium that a line writes: a word and its operands.
use Rattle.std.specs.Prelude.{ℕ, cond, List, [], ◌∷◌, None, codes, Option}
use Rattle.std.specs.Option.{option_map}
use Rattle.std.specs.Str.{bytes_eq}
use Rattle.tabletexts.specs.Table.{fields}
use Rattle.scripts.specs.declared.parts.MediumCommand.{MediumCommand}
use Rattle.scripts.specs.declared.parts.MediumCommand.TheVariants.{Free, Line, Narrow}
use Rattle.scripts.specs.Operands.{no_operand, one_number}

-- the room has 8 bits
abbrev pub narrow_in : List (List ℕ) → Option MediumCommand
narrow_in fs = option_map Narrow (one_number 255 fs)

-- the command of a word with these operands
abbrev pub medium_by : List ℕ → List (List ℕ) → Option MediumCommand
medium_by w fs =
    cond (bytes_eq w (codes "free")) (no_operand Free fs)
    (cond (bytes_eq w (codes "line")) (no_operand Line fs)
    (cond (bytes_eq w (codes "narrow")) (narrow_in fs) None))

-- the command in the fields of a line
abbrev pub medium_in : List (List ℕ) → Option MediumCommand
medium_in [] = None
medium_in (w ∷ fs) = medium_by w fs

-- the command on a line
abbrev pub medium_on : List ℕ → Option MediumCommand
medium_on line = medium_in (fields line)
