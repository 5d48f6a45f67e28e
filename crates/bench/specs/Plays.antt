-- A row played on a run.
use Rattle.std.specs.Prelude.{◌≡◌, ℕ, List, [], Some, None, vec_items}
use Rattle.runs.specs.declared.calls.Turn.{Turn}
use Rattle.runs.specs.Drives.{Written}
use Rattle.runs.specs.Replays.{TurnMade}
use Rattle.bench.specs.declared.outcomes.Outcome.{Outcome}
use Rattle.bench.specs.declared.rows.Row.{Row}
use Rattle.bench.specs.Outcomes.{answer_of, bytes_of, Roomy}
use Rattle.bench.specs.Rows.{lists_of, medium_of, call_of, ComesOut}

-- the turn x, the row's call, has become y on a new run: made as a run promises, and, where there is room, with the answer and the bytes that tell of what comes out of the row
pub record Played (row : Row) (x y : Turn) : Type 0 where
  pub history : List ℕ
  pub made : TurnMade None (medium_of row) (lists_of row) [] x y history
  pub outcome : (o : Outcome) → ComesOut row o → Roomy (lists_of row) (call_of row) (vec_items x.buffer) → (y.answer ≡ Some (answer_of o)) × Written (bytes_of o) (vec_items x.buffer) (vec_items y.buffer)
