-- The lists that a linker links, and a slot that is linked.
use Rattle.std.specs.Prelude.{◌≡◌, ℕ, List, length}
use Rattle.charts.specs.declared.parts.Event.{Event}
use Rattle.charts.specs.Lists.{At}
use Rattle.charts.specs.Sound.{Sound}
use Rattle.copies.specs.declared.linker.Linker.{Linker}
use Rattle.copies.specs.declared.parts.Slot.{Slot}
use Rattle.copies.specs.Noted.{Noted}
use Rattle.copies.specs.Slots.{mate_of}

-- the lists are sound and have the linker's number of instances, and the places of their messages are noted
pub record Links (x : Linker) (L : List (List Event)) : Type 0 where
  pub sound : Sound L
  pub wide : length L ≡ x.width
  pub noted : Noted L x.places.now

-- wherever the lists have the slot's event, the slot has where the other event of its message stands
abbrev pub HasMate : List (List Event) → Slot → Type 0
HasMate L s = (i k : ℕ) → At L i k s.event → s.mate ≡ mate_of L i s.event
