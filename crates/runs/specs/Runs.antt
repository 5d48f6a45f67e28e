-- What a run holds, and what its calls tell.
use Rattle.std.specs.Prelude.{◌≡◌, ℕ, List, Option, Result}
use Rattle.charts.specs.declared.parts.Event.{Event}
use Rattle.charts.specs.declared.faults.Fault.{Fault}
use Rattle.rules.specs.Boards.{lists_of as board_lists, positions as board_positions}
use Rattle.runs.specs.declared.run.Run.{Run}
use Rattle.runs.specs.declared.parts.Refusal.{Refusal}
use Rattle.runs.specs.Stands.{Stands}
use Rattle.runs.specs.Tells.{Tells}

-- the lists of its chart
abbrev pub lists_of : {M : Type 0} → Run M → List (List Event)
lists_of run = board_lists run.board

-- the fault of its chart
abbrev pub fault_of : {M : Type 0} → Run M → Option Fault
fault_of run = run.board.copy.fault

-- its medium
abbrev pub medium_of : {M : Type 0} → Run M → M
medium_of run = run.medium

-- the position of each instance
abbrev pub positions : {M : Type 0} → Run M → ℕ → ℕ
positions run = board_positions run.board

-- it stands where the history h leads
abbrev pub StandsAfter : {M : Type 0} → Run M → List ℕ → Type 0
StandsAfter run h = Stands run.board.rows.table h

-- a call keeps its chart and its medium
abbrev pub KeepsChart : {M : Type 0} → Run M → Run M → Type 0
KeepsChart before after = (after.board.copy ≡ before.board.copy) × (after.medium ≡ before.medium)

-- a call refuses a spoiled chart by its fault; else it answers, after every history that leads to where the run stands, as it should after that history
abbrev pub TellsAfter : {M A : Type 0} → Run M → (List ℕ → Result A Refusal → Type 0) → Result A Refusal → Type 0
TellsAfter run answers r = (h : List ℕ) → StandsAfter run h → Tells (fault_of run) (answers h) r
