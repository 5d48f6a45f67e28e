-- The messages that are on the way.
use Rattle.std.specs.Prelude.{ℕ, Bool, false, not, ◌&&◌, ◌||◌, List, [], ◌∷◌, take, count_by, ◌==◌}
use Rattle.charts.specs.declared.parts.Event.{Event}
use Rattle.charts.specs.Events.{output, input}
use Rattle.charts.specs.Lists.{column}
use Rattle.orders.specs.Histories.{pos}

-- the event is an output to instance j
abbrev pub output_to : ℕ → Event → Bool
output_to j e = e.kind == output && e.peer == j

-- the event is the input of message m from instance i
abbrev pub input_of : ℕ → ℕ → Event → Bool
input_of i m e = e.kind == input && (e.peer == i && e.number == m)

-- one of the events is the input of message m from instance i
abbrev pub received : ℕ → ℕ → List Event → Bool
received i m [] = false
received i m (e ∷ es) = input_of i m e || received i m es

-- how many messages i has output to j among its first k events that j has not input among its first l
abbrev pub passing : List (List Event) → ℕ → ℕ → ℕ → ℕ → ℕ
passing L i j k l = count_by (λ e. output_to j e && not (received i e.number (take l (column L j)))) (take k (column L i))

-- on the way from i to j after h: those whose output has run and whose input has not
abbrev pub on_the_way : List (List Event) → List ℕ → ℕ → ℕ → ℕ
on_the_way L h i j = passing L i j (pos h i) (pos h j)

-- ahead of the message that event k of i outputs to j: those output before it and not yet input
abbrev pub ahead : List (List Event) → List ℕ → ℕ → ℕ → ℕ → ℕ
ahead L h i j k = passing L i j k (pos h j)
