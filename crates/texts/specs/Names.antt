-- The names in a chart, by their bytes.
use Rattle.std.specs.Prelude.{ℕ, suc, Bool, false, cond, ◌||◌, List, [], ◌∷◌, ◌++◌, map, fold, flat_map}
use Rattle.std.specs.Str.{bytes_eq}
use Rattle.grammar.specs.Texts.{EventText, outputs, inputs, acts, ChartText}

-- q is one of the names
abbrev pub has : List (List ℕ) → List ℕ → Bool
has [] q = false
has (n ∷ ns) q = bytes_eq n q || has ns q

-- the names and then n, unless it is one of them
abbrev pub with_name : List (List ℕ) → List ℕ → List (List ℕ)
with_name ns n = cond (has ns n) ns (ns ++ (n ∷ []))

-- each name once, where it appears first
abbrev pub once : List (List ℕ) → List (List ℕ)
once ns = fold with_name [] ns

-- the place of the first name that is q, that after the last where there is none
abbrev pub place_in : List (List ℕ) → List ℕ → ℕ
place_in [] q = 0
place_in (n ∷ ns) q = cond (bytes_eq n q) 0 (suc (place_in ns q))

-- the message of an event, if any
abbrev pub message_of : EventText → List (List ℕ)
message_of (outputs m p) = m ∷ []
message_of (inputs m p) = m ∷ []
message_of (acts n) = []

-- the action of an event, if any
abbrev pub action_of : EventText → List (List ℕ)
action_of (outputs m p) = []
action_of (inputs m p) = []
action_of (acts n) = n ∷ []

-- all events, instance after instance
abbrev pub events_in : ChartText → List EventText
events_in c = flat_map (λ i. i.events) c.instances

-- the names of the instances
abbrev pub instance_names : ChartText → List (List ℕ)
instance_names c = map (λ i. i.name) c.instances

-- the names of messages and of actions, each once, in the order of first appearance
abbrev pub message_names : ChartText → List (List ℕ)
message_names c = once (flat_map message_of (events_in c))

abbrev pub action_names : ChartText → List (List ℕ)
action_names c = once (flat_map action_of (events_in c))
