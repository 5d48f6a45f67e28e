-- What a drive can make that holds an event back.
use Rattle.std.specs.Prelude.{ℕ, Bool, false, cond, ◌&&◌, ◌==◌, List, Some, None, Option, nat_lt}
use Rattle.charts.specs.declared.parts.Event.{Event}
use Rattle.media.specs.Carry.{Carry}
use Rattle.orders.specs.Deciding.{may_now_at}
use Rattle.orders.specs.Driving.{other_now}
use Rattle.rules.specs.declared.held.Held.{Held}

-- the next event of instance j at the positions p is the one that is held
abbrev pub is_held : Option Held → (ℕ → ℕ) → ℕ → Bool
is_held None p j = false
is_held (Some x) p j = j == x.instance && p x.instance == x.event

-- instance j may run at the positions p, and not by the event that is held
abbrev pub held_now : Carry → List (List Event) → Option Held → (ℕ → ℕ) → ℕ → Bool
held_now M L None p j = may_now_at M L p j
held_now M L (Some x) p j = other_now M L x.instance x.event p j

-- a number below the width, none where it is the width
abbrev pub some_below : ℕ → ℕ → Option ℕ
some_below width i = cond (nat_lt i width) (Some i) None
