-- The rules of a sound chart. An instance may send to itself.
use Rattle.std.specs.Prelude.{◌≡◌, ℕ, ◌<◌, ◌≤◌, ◌⊎◌, List, length}
use Rattle.charts.specs.declared.parts.Event.{Event}
use Rattle.charts.specs.Events.{event, output, input, action, environment, Message}
use Rattle.charts.specs.Lists.{At, size}

pub record Sound (L : List (List Event)) : Type 0 where
  -- at most 32 instances
  pub few_instances : length L ≤ 32
  -- at most 4,096 events
  pub few_events : size L ≤ 4096
  -- an event is an output, an input or an action
  pub kinds : (i k : ℕ) (e : Event) → At L i k e → (output ≤ e.kind) × (e.kind ≤ action)
  -- the peer of a message is an instance or the environment
  pub message_peers : (i k : ℕ) (e : Event) → At L i k e → Message e → (e.peer < length L) ⊎ (e.peer ≡ environment)
  -- an action has the environment for its peer
  pub action_peers : (i k : ℕ) (e : Event) → At L i k e → e.kind ≡ action → e.peer ≡ environment
  -- a message's or an action's number is at most 4,095
  pub numbers : (i k : ℕ) (e : Event) → At L i k e → e.number ≤ 4095
  -- a message has one output
  pub one_output : (m i k p j l q : ℕ) → At L i k (event output p m) → At L j l (event output q m) → (i ≡ j) × (k ≡ l)
  -- a message has one input
  pub one_input : (m i k p j l q : ℕ) → At L i k (event input p m) → At L j l (event input q m) → (i ≡ j) × (k ≡ l)
  -- an output on i to instance j has an input of that number on j from i
  pub outputs_matched : (m i k j : ℕ) → At L i k (event output j m) → j < length L → (l : ℕ) × At L j l (event input i m)
  -- an input on j from instance i has an output of that number on i to j
  pub inputs_matched : (m j l i : ℕ) → At L j l (event input i m) → i < length L → (k : ℕ) × At L i k (event output j m)
  -- a message with the environment has one event
  pub environment_alone : (i k j l : ℕ) (e f : Event) → At L i k e → At L j l f → Message e → Message f → e.peer ≡ environment → e.number ≡ f.number → (i ≡ j) × (k ≡ l)
