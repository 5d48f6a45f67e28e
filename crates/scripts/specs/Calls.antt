-- The call that a line writes, a word and its operands, and the length of the buffer that it is handed.
use Rattle.std.specs.Prelude.{ℕ, cond, List, [], ◌∷◌, None, codes, Option}
use Rattle.std.specs.Option.{option_map}
use Rattle.std.specs.Str.{bytes_eq}
use Rattle.tabletexts.specs.Table.{fields}
use Rattle.runs.specs.declared.calls.Call.{Call}
use Rattle.runs.specs.declared.calls.Call.TheVariants.{Step, Drive, Restart, Judge, Latest}
use Rattle.scripts.specs.Operands.{no_operand, one_number, two_numbers}

-- an instance of 8 bits; it writes nothing, so it is handed no buffer
abbrev pub step_in : List (List ℕ) → Option (Call × ℕ)
step_in fs = option_map (λ i. (Step i, 0)) (one_number 255 fs)

-- a number of steps and then the room, of 16 bits each
abbrev pub drive_in : List (List ℕ) → Option (Call × ℕ)
drive_in fs = option_map (λ p. (Drive p.0, p.1)) (two_numbers 65535 65535 fs)

-- the room, of 16 bits
abbrev pub judge_in : List (List ℕ) → Option (Call × ℕ)
judge_in fs = option_map (λ room. (Judge, room)) (one_number 65535 fs)

-- an instance of 8 bits and an event of 16; it is handed no buffer
abbrev pub latest_in : List (List ℕ) → Option (Call × ℕ)
latest_in fs = option_map (λ p. (Latest p.0 p.1, 0)) (two_numbers 255 65535 fs)

-- the call of a word with these operands
abbrev pub call_by : List ℕ → List (List ℕ) → Option (Call × ℕ)
call_by w fs =
    cond (bytes_eq w (codes "step")) (step_in fs)
    (cond (bytes_eq w (codes "drive")) (drive_in fs)
    (cond (bytes_eq w (codes "restart")) (no_operand (Restart, 0) fs)
    (cond (bytes_eq w (codes "judge")) (judge_in fs)
    (cond (bytes_eq w (codes "latest")) (latest_in fs) None))))

-- the call in the fields of a line
abbrev pub call_in : List (List ℕ) → Option (Call × ℕ)
call_in [] = None
call_in (w ∷ fs) = call_by w fs

-- the call on a line
abbrev pub call_on : List ℕ → Option (Call × ℕ)
call_on line = call_in (fields line)
