-- What the items that were read come to.
use Rattle.std.specs.Prelude.{◌≡◌, true, false, List, [], ◌∷◌, ◌++◌, length, Ok, Err, Result}
use Rattle.words.specs.declared.faults.Cause.TheVariants.{InstanceRepeated}
use Rattle.words.specs.declared.faults.Fault.{Fault}
use Rattle.words.specs.Reading.{placed}
use Rattle.sentences.specs.Wants.{at_byte, among}
use Rattle.sentences.specs.Events.{event_words}
use Rattle.items.specs.declared.parts.Item.{Item as Read}
use Rattle.items.specs.declared.parts.Item.TheVariants.{Instance, Event, InstanceEnd, End}
use Rattle.items.specs.declared.tally.Tally.{Tally}
use Rattle.items.specs.Items.{Item, instance_named, event, instance_ends}
use Rattle.items.specs.Surveys.{names_in, events_in}
use Rattle.items.specs.Known.{Knows}

-- the tally is of these items
pub record Holds (t : Tally) (done : List Item) : Type 0 where
  pub knows : Knows t.names (names_in done)
  pub read : t.read ≡ length done
  pub instances : t.instances ≡ length (names_in done)
  pub events : t.events ≡ events_in done

-- the tally is of one item more; an instance that was named before is refused
abbrev pub Takes : List Item → Read → Result (Unit {0}) Fault → Tally → Type 0
Takes done (Instance w) (Ok u) t = (among (names_in done) w.bytes.now ≡ false) × Holds t (done ++ (instance_named (placed w) ∷ []))
Takes done (Instance w) (Err f) t = (among (names_in done) w.bytes.now ≡ true) × (f ≡ at_byte InstanceRepeated w.start)
Takes done (Event e) r t = (r ≡ Ok tt) × Holds t (done ++ (event (event_words e) ∷ []))
Takes done InstanceEnd r t = (r ≡ Ok tt) × Holds t (done ++ (instance_ends ∷ []))
Takes done End r t = r ≡ Ok tt
