-- The same as May and Waits, as what code can compute: of a history, and of the positions alone, which are all that code has.
use Rattle.std.specs.Prelude.{ℕ, suc, Bool, true, cond, ◌&&◌, ◌||◌, List, [], ◌∷◌, ◌==◌, nat_lt}
use Rattle.charts.specs.declared.parts.Event.{Event}
use Rattle.charts.specs.Events.{output, action, environment}
use Rattle.charts.specs.Lists.{column, count_of, event_of}
use Rattle.media.specs.Carry.{Carry}
use Rattle.orders.specs.Histories.{pos}
use Rattle.orders.specs.Passing.{output_to, input_of, passing, on_the_way, ahead}

-- where the output of message m to instance i stands among the events, past the last where there is none
abbrev pub output_place : ℕ → ℕ → List Event → ℕ
output_place i m [] = 0
output_place i m (e ∷ es) = cond (output_to i e && e.number == m) 0 (suc (output_place i m es))

-- the event e of instance i may run after h
abbrev pub may_run : Carry → List (List Event) → List ℕ → ℕ → Event → Bool
may_run M L h i e =
    cond (e.kind == action || e.peer == environment) true
    (cond (e.kind == output) (M.send i e.peer (on_the_way L h i e.peer))
    (nat_lt (output_place i e.number (column L e.peer)) (pos h e.peer) &&
    M.take e.peer i (ahead L h e.peer i (output_place i e.number (column L e.peer)))))

-- instance i has a next event, and it may run
abbrev pub may_now : Carry → List (List Event) → List ℕ → ℕ → Bool
may_now M L h i = nat_lt (pos h i) (count_of L i) && may_run M L h i (event_of L i (pos h i))

-- what the event e of instance i waits for where it may not run: the receiver of an output, the sender where nothing was sent, else itself
abbrev pub waits_for : List (List Event) → List ℕ → ℕ → Event → ℕ
waits_for L h i e =
    cond (e.kind == output) e.peer
    (cond (nat_lt (output_place i e.number (column L e.peer)) (pos h e.peer)) i e.peer)

-- where the input of message m from instance i stands among the events, past the last where there is none
abbrev pub input_place : ℕ → ℕ → List Event → ℕ
input_place i m [] = 0
input_place i m (e ∷ es) = cond (input_of i m e) 0 (suc (input_place i m es))

-- where the output of the message that event e of instance i inputs stands on its sender
abbrev pub sent_at : List (List Event) → ℕ → Event → ℕ
sent_at L i e = output_place i e.number (column L e.peer)

-- the event e of instance i may run at the positions p
abbrev pub may_run_at : Carry → List (List Event) → (ℕ → ℕ) → ℕ → Event → Bool
may_run_at M L p i e =
    cond (e.kind == action || e.peer == environment) true
    (cond (e.kind == output) (M.send i e.peer (passing L i e.peer (p i) (p e.peer)))
    (nat_lt (sent_at L i e) (p e.peer) && M.take e.peer i (passing L e.peer i (sent_at L i e) (p i))))

-- instance i has an event left
abbrev pub unfinished : List (List Event) → (ℕ → ℕ) → ℕ → Bool
unfinished L p i = nat_lt (p i) (count_of L i)

-- instance i has an event left, and its next may run
abbrev pub may_now_at : Carry → List (List Event) → (ℕ → ℕ) → ℕ → Bool
may_now_at M L p i = unfinished L p i && may_run_at M L p i (event_of L i (p i))

-- what the event e of instance i waits for at the positions p where it may not run
abbrev pub waits_for_at : List (List Event) → (ℕ → ℕ) → ℕ → Event → ℕ
waits_for_at L p i e = cond (e.kind == output) e.peer (cond (nat_lt (sent_at L i e) (p e.peer)) i e.peer)

-- what the next event of instance i waits for
abbrev pub waits_now : List (List Event) → (ℕ → ℕ) → ℕ → ℕ
waits_now L p i = waits_for_at L p i (event_of L i (p i))
