-- What a bus does with messages.
use Rattle.std.specs.Prelude.{ℕ, Some, None, Option}
use Rattle.media.specs.Carry.{Carry}
use Rattle.media.specs.Media.{free, line, narrow}
use Rattle.buses.specs.declared.bus.Base.{Base}
use Rattle.buses.specs.declared.bus.Base.TheVariants.{Free, Line}
use Rattle.buses.specs.declared.bus.Bus.{Bus}

-- before it is made narrower
abbrev pub based : Base → Carry
based Free = free
based Line = line

-- as m does, with the least room that it was given, if any
abbrev pub within : Option ℕ → Carry → Carry
within None m = m
within (Some room) m = narrow room m

-- what a bus does with messages
abbrev pub carried : Bus → Carry
carried bus = within bus.room (based bus.base)
