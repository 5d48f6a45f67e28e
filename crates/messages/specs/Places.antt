-- Where the events of messages stand, as far as they were noted.
use Rattle.std.specs.Prelude.{ℕ, cond, ◌&&◌, ◌==◌, Some, None, Option, nat_lt, slice_index_or}
use Rattle.messages.specs.declared.ends.End.{End}
use Rattle.messages.specs.declared.ends.End.TheVariants.{Output, Input}
use Rattle.messages.specs.declared.places.Ends.{Ends}
use Rattle.messages.specs.declared.places.MessagePlaces.{MessagePlaces}
use Rattle.messages.specs.Ends.{same_end}

-- neither event was noted
abbrev pub nowhere : Ends
nowhere = record { output = None; input = None }

-- where one event of a message stands
abbrev pub one_of : Ends → End → Option ℕ
one_of ends Output = ends.output
one_of ends Input = ends.input

-- where one event of the message of this number stands, none where it was not noted
abbrev pub place_of : MessagePlaces → End → ℕ → Option ℕ
place_of m end number = one_of (slice_index_or m.ends number nowhere) end

-- the same, after a place was noted for a message whose number a sound chart can have
abbrev pub place_after : MessagePlaces → End → ℕ → ℕ → End → ℕ → Option ℕ
place_after m end number place e n =
    cond (same_end e end && (n == number && nat_lt number 4096)) (Some place) (place_of m e n)
