-- The process of a chart (Z.120 Annex B, Definitions B.3.4.3 and B.4.4.3 to B.4.4.6).
use Rattle.std.specs.Prelude.{ℕ, suc, cond, List, [], ◌∷◌, ◌++◌, ◌==◌}
use Rattle.charts.specs.declared.parts.Event.{Event}
use Rattle.charts.specs.Events.{output, input, environment}
use Rattle.charts.specs.Lists.{event_of}
use Rattle.orders.specs.Histories.{pos}
use Rattle.process.specs.Actions.{Action, out, «in», out_env, in_env, local}
use Rattle.process.specs.Processes.{Process, ε, act, ◌·◌, ◌‖◌, filter, none}

-- the atomic action of an event of instance i
abbrev pub action_of : ℕ → Event → Action
action_of i e =
    cond (e.kind == output) (cond (e.peer == environment) (out_env i e.number) (out i e.peer e.number))
    (cond (e.kind == input) (cond (e.peer == environment) (in_env i e.number) («in» e.peer i e.number))
    (local i e.number))

-- instance i by itself: its actions in sequence
abbrev pub sequence : ℕ → List Event → Process
sequence i [] = ε
sequence i (e ∷ es) = act (action_of i e) · sequence i es

-- the merge of the instances from i on
abbrev pub merge : ℕ → List (List Event) → Process
merge i [] = ε
merge i (es ∷ K) = sequence i es ‖ merge (suc i) K

-- the process of a chart: the state operator with the empty set over the merge of the instances
abbrev pub chart : List (List Event) → Process
chart L = filter none (merge 0 L)

-- the actions of the events that h runs after u, in turn
abbrev pub actions_after : List (List Event) → List ℕ → List ℕ → List Action
actions_after L u [] = []
actions_after L u (i ∷ h) = action_of i (event_of L i (pos u i)) ∷ actions_after L (u ++ (i ∷ [])) h

-- the actions of a history's events in turn
abbrev pub actions : List (List Event) → List ℕ → List Action
actions L h = actions_after L [] h
