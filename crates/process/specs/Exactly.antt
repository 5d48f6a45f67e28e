-- The theorem: what the equations allow a chart's process is what the orders under the free medium are.
use Rattle.std.specs.Prelude.{◌≡◌, ℕ, true, List}
use Rattle.charts.specs.declared.parts.Event.{Event}
use Rattle.charts.specs.Sound.{Sound}
use Rattle.media.specs.Media.{free}
use Rattle.orders.specs.Histories.{Next}
use Rattle.orders.specs.May.{May}
use Rattle.orders.specs.Orders.{Order, Ended, Full}
use Rattle.process.specs.Actions.{Action, instance}
use Rattle.process.specs.Processes.{none, Process, ε, δ}
use Rattle.process.specs.Equations.{◌≈◌}
use Rattle.process.specs.Allowed.{Allows, MayTerminate, Runs}
use Rattle.process.specs.ChartProcess.{action_of, chart, actions}
use Rattle.process.specs.OnTheWay.{OnTheWay, after_actions}
use Rattle.process.specs.Reached.{Reached}

-- of a chart's lists
pub record Exactly (L : List (List Event)) : Type 0 where
  -- actions that are steps of the process are the actions of an order's events in turn
  pub steps_are_orders : (t : List Action) (q : Process) → Runs (chart L) t q → (h : List ℕ) × Order free L h × (actions L h ≡ t)
  -- and the actions of every order are steps
  pub orders_are_steps : (h : List ℕ) → Order free L h → (q : Process) × Runs (chart L) (actions L h) q
  -- after the actions of an order the state operator's set, empty at first, has exactly the messages that are on the way
  pub only_on_the_way : (h : List ℕ) (m : ℕ) → Order free L h → after_actions none (actions L h) m ≡ true → OnTheWay L h m
  pub all_on_the_way : (h : List ℕ) (m : ℕ) → Order free L h → OnTheWay L h m → after_actions none (actions L h) m ≡ true
  -- the process reached is what the positions and the messages on the way give
  pub reached : (h : List ℕ) (q : Process) → Order free L h → Runs (chart L) (actions L h) q → Reached L h q
  -- it may terminate exactly when the order is full
  pub terminates_full : (h : List ℕ) (q : Process) → Order free L h → Runs (chart L) (actions L h) q → MayTerminate q → Full free L h
  pub full_terminates : (h : List ℕ) (q : Process) → Full free L h → Runs (chart L) (actions L h) q → MayTerminate q
  -- it is then the empty process, and where no instance may run and the order is not full it is deadlock
  pub full_is_empty : (h : List ℕ) (q : Process) → Full free L h → Runs (chart L) (actions L h) q → q ≈ ε
  pub stuck_is_deadlock : (h : List ℕ) (q : Process) → Order free L h → Ended free L h → (Full free L h → ⊥) → Runs (chart L) (actions L h) q → q ≈ δ
  -- and the action of a step is that of its instance's next event, which may run
  pub no_other : (h : List ℕ) (q r : Process) (a : Action) → Order free L h → Runs (chart L) (actions L h) q → Allows q a r →
      May free L h (instance a) × ((e : Event) × Next L h (instance a) e × (a ≡ action_of (instance a) e))

-- of every sound chart
abbrev pub EverySoundChart : Type 0
EverySoundChart = (L : List (List Event)) → Sound L → Exactly L
