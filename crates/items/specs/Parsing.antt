-- Reading a chart text item by item.
use Rattle.std.specs.Prelude.{◌≡◌, ℕ, true, false, List, [], ◌∷◌, Ok, Err, Result, codes}
use Rattle.words.specs.declared.faults.Cause.TheVariants.{TextEnds}
use Rattle.words.specs.declared.faults.Fault.{Fault}
use Rattle.words.specs.declared.parts.Word.{Word}
use Rattle.words.specs.Sentences.{Placed, Sentence}
use Rattle.words.specs.Reading.{placed, first, others, left, StandsIn}
use Rattle.sentences.specs.Wants.{exactly, name, at_byte, closed, reads}
use Rattle.sentences.specs.Events.{event_words, EventStandsIn}
use Rattle.items.specs.declared.parts.Item.{Item as Read}
use Rattle.items.specs.declared.parts.Item.TheVariants.{Instance, Event, InstanceEnd, End}
use Rattle.items.specs.declared.parts.Stage.{Stage}
use Rattle.items.specs.declared.parts.Stage.TheVariants.{Outside, Heading, Inside, Done, Refused}
use Rattle.items.specs.declared.parser.Parser.{Parser}
use Rattle.items.specs.Items.{Items, instance_named, event, instance_ends, refused, with_item, if_closed, nothing_in, items_from}

-- nothing is left, and the text ends as it should
abbrev pub nothing_left : Items
nothing_left = record { items = []; outcome = Ok tt }

-- the items that are left at a stage: between instances, after the name of a heading, inside an instance, after the end, or after a fault
abbrev pub items_at : Stage → List Sentence → Items
items_at Outside l = items_from false l
items_at Heading l = if_closed (closed (first l).words (first l).ending) (items_from true (others l))
items_at Inside l = items_from true l
items_at Done l = nothing_left
items_at (Refused f) l = refused f

-- what was left begins with the item that was read; where that is the end, nothing was left
abbrev pub BeginsWithItem : Items → Read → Items → Type 0
BeginsWithItem before (Instance w) after = before ≡ with_item (instance_named (placed w)) after
BeginsWithItem before (Event e) after = before ≡ with_item (event (event_words e)) after
BeginsWithItem before InstanceEnd after = before ≡ with_item instance_ends after
BeginsWithItem before End after = (before ≡ nothing_left) × (after ≡ nothing_left)

-- what was left begins with the item that was read, or is the fault
abbrev pub ItemRead : Items → Result Read Fault → Items → Type 0
ItemRead before (Ok i) after = BeginsWithItem before i after
ItemRead before (Err f) after = (before ≡ refused f) × (after ≡ refused f)

-- the same of one step, with the stage that it leads to
abbrev pub StepRead : Items → Result (Read × Stage) Fault → List Sentence → Type 0
StepRead before (Ok r) after = BeginsWithItem before r.0 (items_at r.1 after)
StepRead before (Err f) after = before ≡ refused f

-- nothing is left after the end, or the fault
abbrev pub EndRead : List Sentence → Result (Unit {0}) Fault → Type 0
EndRead before r = nothing_in (first before).words (first before).ending ≡ r

-- the items that are left of a parser
abbrev pub items_left : Parser → Items
items_left w = items_at w.stage (left w.reader)

-- the name in the words of the first sentence
abbrev pub second : Result (List Placed) Fault → Result Placed Fault
second (Ok []) = Err (at_byte TextEnds 0)
second (Ok (m ∷ [])) = Err (at_byte TextEnds 0)
second (Ok (m ∷ n ∷ ws)) = Ok n
second (Err f) = Err f

-- the name of the text, in its first sentence, `msc` and the name
abbrev pub title_in : List Sentence → Result Placed Fault
title_in ss = second (reads (exactly (codes "msc") ∷ name ∷ []) (first ss).words (first ss).ending)

-- the name was read, and the items of the other sentences are left; or the first sentence has this fault
abbrev pub Begins : List Sentence → Result (Word × Parser) Fault → Type 0
Begins ss (Ok r) = (title_in ss ≡ Ok (placed r.0)) × (items_left r.1 ≡ items_from false (others ss))
Begins ss (Err f) = title_in ss ≡ Err f

-- the names of an item stand in the text
abbrev pub ItemStandsIn : List ℕ → Read → Type 0
ItemStandsIn text (Instance w) = StandsIn text (placed w)
ItemStandsIn text (Event e) = EventStandsIn text (event_words e)
ItemStandsIn text InstanceEnd = Unit {0}
ItemStandsIn text End = Unit {0}
