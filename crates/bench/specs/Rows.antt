-- The rows of the bench: the chart, the medium and the call of each, and what comes out.
use Rattle.std.specs.Prelude.{List, [], ◌∷◌, None}
use Rattle.charts.specs.declared.parts.Event.{Event}
use Rattle.charts.specs.Events.{event, output, input}
use Rattle.charts.specs.Sound.{Sound}
use Rattle.joining.specs.After.{after_lists}
use Rattle.joining.specs.Beside.{beside_lists}
use Rattle.media.specs.Carry.{Carry}
use Rattle.media.specs.Media.{free, line, narrow}
use Rattle.polling.specs.Limits.{lists_of as poll_lists}
use Rattle.runs.specs.declared.calls.Call.{Call}
use Rattle.runs.specs.declared.calls.Call.TheVariants.{Drive, Judge, Latest}
use Rattle.worked.specs.Charts.{late, cross, over, hop}
use Rattle.bench.specs.declared.outcomes.Outcome.{Outcome}
use Rattle.bench.specs.declared.rows.Row.{Row}
use Rattle.bench.specs.declared.rows.Row.TheVariants.{Empty, LateText, LateTextTaken, LateRing, LateSound, Cross, OverFree, OverInLine, OverRoomForOne, OverRoomForTwo, HopNoRoom, PollDriven, HopAfterHop, HopBesideHop, ToItself}
use Rattle.bench.specs.Outcomes.{Comes, Same, OneAnswer}

-- an instance that sends a message to itself and takes it
abbrev pub to_itself : List (List Event)
to_itself = (event output 0 0 ∷ event input 0 0 ∷ []) ∷ []

-- the lists of a row's chart
abbrev pub lists_of : Row → List (List Event)
lists_of Empty = []
lists_of LateText = late
lists_of LateTextTaken = late
lists_of LateRing = late
lists_of LateSound = late
lists_of Cross = cross
lists_of OverFree = over
lists_of OverInLine = over
lists_of OverRoomForOne = over
lists_of OverRoomForTwo = over
lists_of HopNoRoom = hop
lists_of PollDriven = poll_lists 1 1
lists_of HopAfterHop = after_lists None None hop hop
lists_of HopBesideHop = beside_lists None None hop hop
lists_of ToItself = to_itself

-- its medium
abbrev pub medium_of : Row → Carry
medium_of OverInLine = line
medium_of OverRoomForOne = narrow 1 free
medium_of OverRoomForTwo = narrow 2 free
medium_of HopNoRoom = narrow 0 free
medium_of row = free

-- the call on a new run
abbrev pub call_of : Row → Call
call_of LateText = Latest 0 0
call_of LateTextTaken = Latest 1 0
call_of LateRing = Latest 2 0
call_of LateSound = Latest 2 1
call_of PollDriven = Drive 4
call_of HopAfterHop = Latest 0 1
call_of HopBesideHop = Latest 0 0
call_of row = Judge

-- what comes out of a row
pub record ComesOut (row : Row) (o : Outcome) : Type 0 where
  -- its chart is sound
  pub sound : Sound (lists_of row)
  -- this comes out of its call
  pub comes : Comes (medium_of row) (lists_of row) (call_of row) o
  -- and nothing else does
  pub only : (p : Outcome) → Comes (medium_of row) (lists_of row) (call_of row) p → Same p o
  -- and a run's call answers and writes just this
  pub one_answer : OneAnswer (medium_of row) (lists_of row) (call_of row) o
