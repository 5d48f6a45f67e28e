-- What a chart text says, item by item.
use Rattle.std.specs.Prelude.{Bool, true, false, cond, List, [], ◌∷◌, Ok, Err, Result, codes}
use Rattle.std.specs.Str.{bytes_eq}
use Rattle.words.specs.declared.faults.Cause.TheVariants.{WrongWord, AfterEnd}
use Rattle.words.specs.declared.faults.Fault.{Fault}
use Rattle.words.specs.Sentences.{Placed, Sentence, Ending, semicolon, text_end, fault}
use Rattle.words.specs.Reading.{first}
use Rattle.sentences.specs.Wants.{at_byte, no_word, closed, reserved}
use Rattle.sentences.specs.Events.{EventWords, event_in}

-- an instance begins, with its name; an event of it; it ends
pub data Item : Type 0 where
  instance_named : Placed → Item
  event : EventWords → Item
  instance_ends : Item

-- the items, and whether the text then ends as it should or is refused
pub record Items : Type 0 where
  pub items : List Item
  pub outcome : Result (Unit {0}) Fault

-- nothing but the fault
abbrev pub refused : Fault → Items
refused f = record { items = []; outcome = Err f }

-- an item before the others
abbrev pub with_item : Item → Items → Items
with_item i is = record { items = i ∷ is.items; outcome = is.outcome }

-- the others, where the sentence is closed
abbrev pub if_closed : Result (List Placed) Fault → Items → Items
if_closed (Ok ws) is = is
if_closed (Err f) is = refused f

-- an event before the others, or its fault
abbrev pub if_event : Result EventWords Fault → Items → Items
if_event (Ok e) is = with_item (event e) is
if_event (Err f) is = refused f

-- a heading after its first word; its name counts also where its semicolon is missing
abbrev pub heading : List Placed → Ending → Items → Items
heading [] e inside = refused (no_word e)
heading (n ∷ ws) e inside = cond (reserved n.bytes) (refused (at_byte WrongWord n.start)) (with_item (instance_named n) (if_closed (closed ws e) inside))

-- a sentence between instances, with what follows a heading and what follows the end
abbrev pub outside_by : List Placed → Ending → Items → Items → Items
outside_by [] e inside end = refused (no_word e)
outside_by (v ∷ ws) e inside end =
    cond (bytes_eq v.bytes (codes "instance")) (heading ws e inside)
    (cond (bytes_eq v.bytes (codes "endmsc")) (if_closed (closed ws e) end) (refused (at_byte WrongWord v.start)))

-- a sentence of an instance, with what follows an event and what follows its end
abbrev pub inside_by : List Placed → Ending → Items → Items → Items
inside_by [] e inside outside = refused (no_word e)
inside_by (v ∷ ws) e inside outside =
    cond (bytes_eq v.bytes (codes "endinstance")) (if_closed (closed ws e) (with_item instance_ends outside))
    (if_event (event_in v (record { words = ws; ending = e })) inside)

-- nothing may stand after the end
abbrev pub nothing_in : List Placed → Ending → Result (Unit {0}) Fault
nothing_in [] (text_end n) = Ok tt
nothing_in [] (semicolon b) = Err (at_byte AfterEnd b)
nothing_in [] (fault c b) = Err (at_byte c b)
nothing_in (w ∷ ws) e = Err (at_byte AfterEnd w.start)

-- after the end of the text nothing may stand
abbrev pub finished : List Sentence → Items
finished l = record { items = []; outcome = nothing_in (first l).words (first l).ending }

-- the items of the sentences, inside an instance or between them
abbrev pub items_from : Bool → List Sentence → Items
items_from b [] = refused (no_word (text_end 0))
items_from true (s ∷ ss) = inside_by s.words s.ending (items_from true ss) (items_from false ss)
items_from false (s ∷ ss) = outside_by s.words s.ending (items_from true ss) (finished ss)
