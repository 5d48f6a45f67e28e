-- What a chart fixes of an event beforehand.
use Rattle.std.specs.Prelude.{ℕ, Bool, cond, ◌&&◌, List, length, Some, None, Option, ◌==◌, nat_lt, nat_le}
use Rattle.charts.specs.declared.parts.Event.{Event}
use Rattle.charts.specs.Events.{output, input, is_message}
use Rattle.charts.specs.Lists.{column, count_of, event_of}
use Rattle.orders.specs.Passing.{output_to, passing}
use Rattle.orders.specs.Deciding.{input_place, sent_at}
use Rattle.copies.specs.declared.parts.Slot.{Slot}

-- the event's message goes from an instance of the chart to an instance of it
abbrev pub between : List (List Event) → Event → Bool
between L e = is_message e && nat_lt e.peer (length L)

-- where the other event of the message that event e of instance i belongs to stands on the peer; 0 for an event that is not between instances
abbrev pub mate_of : List (List Event) → ℕ → Event → ℕ
mate_of L i e = cond (between L e) (cond (e.kind == output) (input_place i e.number (column L e.peer)) (sent_at L i e)) 0

-- how many messages are ahead of the one that event k of instance i inputs, when that event is the next; 0 for other events
abbrev pub ahead_of : List (List Event) → ℕ → ℕ → Event → ℕ
ahead_of L i k e = cond (between L e && e.kind == input) (passing L e.peer i (sent_at L i e) k) 0

-- event k of instance i, with what is fixed of it
abbrev pub slot_of : List (List Event) → ℕ → ℕ → Slot
slot_of L i k = record { event = event_of L i k; mate = mate_of L i (event_of L i k); ahead = ahead_of L i k (event_of L i k) }

-- the slot's event is an output to instance i whose input stands there at k or after it
abbrev pub is_ahead : ℕ → ℕ → Slot → Bool
is_ahead i k s = output_to i s.event && nat_le k s.mate

-- event k of instance i with what is fixed of it, where the instance has an event k, else none
abbrev pub slot_at : List (List Event) → ℕ → ℕ → Option Slot
slot_at L i k = cond (nat_lt k (count_of L i)) (Some (slot_of L i k)) None
