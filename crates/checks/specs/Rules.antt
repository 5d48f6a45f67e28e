-- The rules that the table's event k may break, and their numbers.
use Rattle.std.specs.Prelude.{ℕ, suc, Bool, cond, not, ◌&&◌, ◌||◌, List, [], ◌∷◌, length, Option, ◌==◌, nat_le, nat_lt, slice_index_or}
use Rattle.charts.specs.declared.parts.Event.{Event}
use Rattle.charts.specs.Events.{output, input, action, environment, is_message, no_event}
use Rattle.checks.specs.Choice.{unless, earliest}
use Rattle.checks.specs.Cut.{instance_of}

-- an output, an input or an action
abbrev pub known_kind : Event → Bool
known_kind e = nat_le output e.kind && nat_le e.kind action

-- a message has an instance or the environment for its peer, an action the environment
abbrev pub known_peer : ℕ → Event → Bool
known_peer width e = e.peer == environment || (is_message e && nat_lt e.peer width)

-- the kind, then the peer, then the number are as they should be
abbrev pub well_formed : ℕ → ℕ → Event → Option ℕ
well_formed width k e =
    earliest (unless (known_kind e) 14 ∷ unless (known_peer width e) 15 ∷ unless (nat_le e.number 4095) 16 ∷ [])

-- the event has this kind and this number
abbrev pub is_of : ℕ → ℕ → Event → Bool
is_of kind m e = e.kind == kind && e.number == m

-- where the first event of this kind and number stands, the table's length where there is none
abbrev pub first_place : ℕ → ℕ → List Event → ℕ
first_place kind m [] = 0
first_place kind m (e ∷ es) = cond (is_of kind m e) 0 (suc (first_place kind m es))

-- no event before k is of the same message and kind
abbrev pub not_repeated : List Event → ℕ → Event → Option ℕ
not_repeated es k e = unless (not (is_message e) || nat_le k (first_place e.kind e.number es)) 17

-- an input for an output, and the reverse
abbrev pub other_kind : ℕ → ℕ
other_kind kind = cond (kind == output) input output

-- the event at p is on this instance, and its peer is that one
abbrev pub joins : List ℕ → List Event → ℕ → ℕ → ℕ → Bool
joins ns es p i j = nat_lt p (length es) && (instance_of ns p == i && (slice_index_or es p no_event).peer == j)

-- a message with an instance has its other event there; a message with the environment has no other
abbrev pub has_match : List ℕ → List Event → ℕ → Event → Bool
has_match ns es k e =
    cond (e.peer == environment)
    (nat_le (length es) (first_place (other_kind e.kind) e.number es))
    (joins ns es (first_place (other_kind e.kind) e.number es) e.peer (instance_of ns k))

-- 18 where the event is a message and has no match
abbrev pub matched : List ℕ → List Event → ℕ → Event → Option ℕ
matched ns es k e = unless (not (is_message e) || has_match ns es k e) 18
