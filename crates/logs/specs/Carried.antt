-- A follower on a run that was new at the head and that it alone has changed.
use Rattle.std.specs.Prelude.{◌≡◌, ℕ, suc, List, [], ◌∷◌, ◌++◌, length, Ok, Err, Result, ◌↔◌}
use Rattle.charts.specs.declared.parts.Event.{Event}
use Rattle.media.specs.Carry.{Carry}
use Rattle.orders.specs.Orders.{Order}
use Rattle.process.specs.Actions.{Action}
use Rattle.process.specs.Processes.{Process}
use Rattle.process.specs.ChartProcess.{chart, actions}
use Rattle.process.specs.Allowed.{Runs, MayTerminate}
use Rattle.records.specs.declared.parts.Entry.{Entry}
use Rattle.records.specs.Records.{entry_bytes, end_bytes}
use Rattle.runs.specs.declared.run.Run.{Run}
use Rattle.runs.specs.Runs.{lists_of, StandsAfter}
use Rattle.logs.specs.declared.parts.Refusal.{Refusal}
use Rattle.logs.specs.declared.parts.Following.{Following}
use Rattle.logs.specs.declared.parts.Closed.{Closed}
use Rattle.logs.specs.declared.parts.Verdict.{Verdict}
use Rattle.logs.specs.declared.parts.Verdict.TheVariants.{Full}
use Rattle.logs.specs.Ends.{end_of}
use Rattle.logs.specs.AnnexB.{NamesEach}

-- the follower f has taken the entries xs, and the run, over the medium M, stands after the steps that they name, which are an order
pub record HasTaken {A : Type 0} (M : Carry) (run : Run A) (xs : List Entry) (f : Following) : Type 0 where
  pub history : List ℕ
  pub stands : StandsAfter run history
  pub order : Order M (lists_of run) history
  pub named : NamesEach xs (actions (lists_of run) history)
  pub index : f.index ≡ suc (length xs)
  pub entries : f.entries ≡ length xs

-- an entry more was taken, or the bytes were refused and the entries are the same
abbrev pub TakesMore : {A : Type 0} → Carry → Run A → List Entry → List ℕ → Result Following (Following × Refusal) → Type 0
TakesMore M run xs bytes (Ok g) = (x : Entry) × (bytes ≡ entry_bytes x) × HasTaken M run (xs ++ (x ∷ [])) g
TakesMore M run xs bytes (Err r) = HasTaken M run xs r.0

-- some list of actions, one named by each of the entries in turn, are steps that the chart's process allows
abbrev pub AllowedEntries : List (List Event) → List Entry → Type 0
AllowedEntries L xs = (t : List Action) × (q : Process) × NamesEach xs t × Runs (chart L) t q

-- the verdict v on a log with the entries xs: they are allowed, and it is full exactly where the process may then terminate
pub record VerdictOn (L : List (List Event)) (xs : List Entry) (v : Verdict) : Type 0 where
  pub allowed : AllowedEntries L xs
  pub full : (t : List Action) (q : Process) → NamesEach xs t → Runs (chart L) t q → v ≡ Full ↔ MayTerminate q

-- the log is closed with its verdict, exactly by the end of a log of so many entries; or the bytes were refused and the entries are the same
abbrev pub Closes : {A : Type 0} → Run A → List Entry → Following → List ℕ → Result (Closed × Verdict) (Following × Refusal) → Type 0
Closes run xs f bytes (Ok a) = (bytes ≡ end_bytes (end_of (length xs))) × VerdictOn (lists_of run) xs a.1
Closes run xs f bytes (Err r) = (bytes ≡ end_bytes (end_of (length xs)) → ⊥) × (r.0 ≡ f)
