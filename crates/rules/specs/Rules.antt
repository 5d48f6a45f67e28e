-- The rule of what may run, read off a slot of the copy.
use Rattle.std.specs.Prelude.{ℕ, Bool, true, false, cond, not, ◌&&◌, ◌==◌, nat_lt}
use Rattle.charts.specs.Events.{output, input, action, environment, is_message}
use Rattle.media.specs.Carry.{Carry}
use Rattle.copies.specs.declared.parts.Slot.{Slot}

-- the other event of the slot's message has run, at the positions p
abbrev pub mate_ran : (ℕ → ℕ) → Slot → Bool
mate_ran p x = nat_lt x.mate (p x.event.peer)

-- the slot's event, the next of instance i, may run at the positions p with s messages on the way, in a chart of this width
abbrev pub slot_may : Carry → ℕ → (ℕ → ℕ) → (ℕ → ℕ → ℕ) → ℕ → Slot → Bool
slot_may M width p s i x =
    cond (x.event.kind == action) true
    (cond (is_message x.event && x.event.peer == environment) true
    (cond (x.event.kind == output && nat_lt x.event.peer width) (M.send i x.event.peer (s i x.event.peer))
    (cond (x.event.kind == input && nat_lt x.event.peer width) (mate_ran p x && M.take x.event.peer i x.ahead) false)))

-- what it waits for where it may not run
abbrev pub slot_waits : (ℕ → ℕ) → ℕ → Slot → ℕ
slot_waits p i x = cond (x.event.kind == output) x.event.peer (cond (mate_ran p x) i x.event.peer)

-- the slot's event outputs a message that then is on the way: its input has not run
abbrev pub sends_now : ℕ → Bool → Slot → Bool
sends_now width ran x = x.event.kind == output && (nat_lt x.event.peer width && not ran)

-- the slot's event inputs a message that was on the way: its output has run
abbrev pub receives_now : ℕ → Bool → Slot → Bool
receives_now width ran x = x.event.kind == input && (nat_lt x.event.peer width && ran)
