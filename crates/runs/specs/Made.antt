-- What one turn makes of a run.
use Rattle.std.specs.Prelude.{◌≡◌, ℕ, List, length, Some, vec_items, Option}
use Rattle.std.specs.Vec.{with_items}
use Rattle.charts.specs.declared.parts.Event.{Event}
use Rattle.charts.specs.declared.faults.Fault.{Fault}
use Rattle.media.specs.Carry.{Carry}
use Rattle.rules.specs.declared.row.Row.{Row}
use Rattle.runs.specs.declared.calls.Call.{Call}
use Rattle.runs.specs.declared.calls.Answer.{Answer}
use Rattle.runs.specs.declared.calls.Turn.{Turn}
use Rattle.runs.specs.Answers.{Answers}
use Rattle.runs.specs.Histories.{After}
use Rattle.runs.specs.Stands.{Stands}

-- a call made after h was answered by a, and the rows stand where the history after it has led
pub record MakesCall (t : Option Fault) (M : Carry) (L : List (List Event)) (h : List ℕ) (call : Call) (out : List ℕ) (a : Answer) (out' : List ℕ) (rows : List Row) : Type 0 where
  pub answered : Answers t M L h call out (Some a) out'
  pub next : List ℕ
  pub history : After t M L h call (length out) next
  pub stands : Stands rows next

-- a turn x made after h has become y
pub record Makes (t : Option Fault) (M : Carry) (L : List (List Event)) (h : List ℕ) (x y : Turn) (rows : List Row) : Type 0 where
  pub call : y.call ≡ x.call
  pub answer : Answer
  pub noted : y.answer ≡ Some answer
  -- the buffer has the room that it had
  pub room : y.buffer ≡ with_items x.buffer (vec_items y.buffer)
  pub made : MakesCall t M L h x.call (vec_items x.buffer) answer (vec_items y.buffer) rows
