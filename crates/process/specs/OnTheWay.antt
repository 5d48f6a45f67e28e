-- The messages on the way, by the positions, and the set of the state operator, by the actions.
use Rattle.std.specs.Prelude.{ℕ, ◌<◌, ◌≤◌, List, [], ◌∷◌, length}
use Rattle.charts.specs.declared.parts.Event.{Event}
use Rattle.charts.specs.Events.{event, output, input}
use Rattle.charts.specs.Lists.{At}
use Rattle.orders.specs.Histories.{pos}
use Rattle.process.specs.Actions.{Action, out, «in», out_env, in_env, local}
use Rattle.process.specs.Processes.{Messages, with_message, without_message}

-- message m is on the way: its output to an instance has run, and its input has not
pub record OnTheWay (L : List (List Event)) (h : List ℕ) (m : ℕ) : Type 0 where
  pub sender : ℕ
  pub place : ℕ
  pub receiver : ℕ
  pub is_output : At L sender place (event output receiver m)
  pub to_instance : receiver < length L
  pub has_run : place < pos h sender
  pub input_has_not : (l : ℕ) → At L receiver l (event input sender m) → pos h receiver ≤ l

-- the set of the state operator after an action: LM6, LM7, and LM4 for the others
abbrev pub after_action : Messages → Action → Messages
after_action M (out i j m) = with_message M m
after_action M («in» i j m) = without_message M m
after_action M (out_env i m) = M
after_action M (in_env j m) = M
after_action M (local i n) = M

-- after several
abbrev pub after_actions : Messages → List Action → Messages
after_actions M [] = M
after_actions M (a ∷ t) = after_actions (after_action M a) t
