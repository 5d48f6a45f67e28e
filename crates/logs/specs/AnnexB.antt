-- What a log says of a chart by Annex B of Z.120.
use Rattle.std.specs.Prelude.{◌≡◌, ℕ, List, [], ◌∷◌, length, Ok, Result, ◌↔◌}
use Rattle.charts.specs.declared.parts.Event.{Event}
use Rattle.charts.specs.Events.{output, input, action}
use Rattle.charts.specs.Lists.{size}
use Rattle.process.specs.Actions.{Action, out, «in», out_env, in_env, local, instance}
use Rattle.process.specs.Processes.{Process}
use Rattle.process.specs.ChartProcess.{chart}
use Rattle.process.specs.Allowed.{Runs, MayTerminate}
use Rattle.records.specs.declared.parts.Entry.{Entry}
use Rattle.records.specs.Framed.{Framed}
use Rattle.logs.specs.declared.parts.Refusal.{Refusal}
use Rattle.logs.specs.declared.parts.Verdict.{Verdict}
use Rattle.logs.specs.declared.parts.Verdict.TheVariants.{Full}

-- the kind of an action
abbrev pub kind_of : Action → ℕ
kind_of (out i j m) = output
kind_of («in» i j m) = input
kind_of (out_env i m) = output
kind_of (in_env j m) = input
kind_of (local i n) = action

-- the number of its message, or its own
abbrev pub number_in : Action → ℕ
number_in (out i j m) = m
number_in («in» i j m) = m
number_in (out_env i m) = m
number_in (in_env j m) = m
number_in (local i n) = n

-- the entry names the action, by its instance, its kind and its number
pub record Names (x : Entry) (a : Action) : Type 0 where
  pub instance_is : instance a ≡ x.instance
  pub kind_is : kind_of a ≡ x.kind
  pub number_is : number_in a ≡ x.number

-- the entries name the actions, each one in turn
abbrev pub NamesEach : List Entry → List Action → Type 0
NamesEach [] [] = Unit {0}
NamesEach [] (a ∷ t) = ⊥
NamesEach (x ∷ xs) [] = ⊥
NamesEach (x ∷ xs) (a ∷ t) = Names x a × NamesEach xs t

-- the bytes are a log with the entries xs, which name the actions t, and these are steps that the chart's process allows, going on as q
pub record Allowed (L : List (List Event)) (bytes : List ℕ) (xs : List Entry) (t : List Action) (q : Process) : Type 0 where
  pub framed : Framed (length L) (size L) bytes xs
  pub named : NamesEach xs t
  pub runs : Runs (chart L) t q

-- the answer r is full or part exactly when the bytes are a log that is allowed, and full exactly when the process may then terminate
pub record AsAnnexB (L : List (List Event)) (bytes : List ℕ) (r : Result Verdict Refusal) : Type 0 where
  pub only : (v : Verdict) → r ≡ Ok v → (xs : List Entry) × (t : List Action) × (q : Process) × Allowed L bytes xs t q
  pub every : (xs : List Entry) (t : List Action) (q : Process) → Allowed L bytes xs t q → (v : Verdict) × (r ≡ Ok v) × (v ≡ Full ↔ MayTerminate q)
