-- The lines of turns.
use Rattle.std.specs.Prelude.{ℕ, List, [], flat_map, vec_items, Option, Some, None}
use Rattle.listings.specs.Report.{line}
use Rattle.runs.specs.declared.calls.Answer.{Answer}
use Rattle.runs.specs.declared.calls.Turn.{Turn}
use Rattle.replies.specs.AnswerLines.{answer_line}

-- an answer's line with a line feed behind it; nothing where there is no answer
abbrev pub answered : Option Answer → List ℕ → List ℕ
answered (Some a) out = line (answer_line a out)
answered None out = []

-- the lines of all turns, in their order
abbrev pub turn_lines : List Turn → List ℕ
turn_lines = flat_map (λ t. answered t.answer (vec_items t.buffer))
