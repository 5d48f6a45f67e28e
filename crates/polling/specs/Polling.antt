-- The events of a panel that polls n keypads in r rounds. The panel is instance 0, the keypads are instances 1 to n.
use Rattle.std.specs.Prelude.{ℕ, ◌+◌, ◌-◌, ◌*◌, List, [], ◌∷◌, map}
use Rattle.std.specs.List.{range_with_len}
use Rattle.charts.specs.declared.parts.Event.{Event}
use Rattle.charts.specs.Events.{event, output, input}
use Rattle.polling.specs.InTurn.{in_turn}

-- the number of the poll of keypad k in round t
abbrev pub poll_of : ℕ → ℕ → ℕ → ℕ
poll_of n t k = 2 * (t * n + k - 1)

-- the number of its reply
abbrev pub reply_of : ℕ → ℕ → ℕ → ℕ
reply_of n t k = poll_of n t k + 1

-- in round t the panel polls keypad k and receives its reply
abbrev pub asks : ℕ → ℕ → ℕ → List Event
asks n t k = event output k (poll_of n t k) ∷ event input k (reply_of n t k) ∷ []

-- in round t keypad k receives the poll and replies
abbrev pub answers : ℕ → ℕ → ℕ → List Event
answers n t k = event input 0 (poll_of n t k) ∷ event output 0 (reply_of n t k) ∷ []

-- the panel: in each round, each keypad in turn
abbrev pub panel_of : ℕ → ℕ → List Event
panel_of n r = in_turn r (λ t. in_turn n (λ j. asks n t (j + 1)))

-- keypad k: each round in turn
abbrev pub keypad_of : ℕ → ℕ → ℕ → List Event
keypad_of n r k = in_turn r (λ t. answers n t k)

-- the panel, then keypads 1 to n
abbrev pub polling : ℕ → ℕ → List (List Event)
polling n r = panel_of n r ∷ map (keypad_of n r) (range_with_len 1 n)
