-- A chart text as a whole: its name, and how many instances and events it has.
use Rattle.std.specs.Prelude.{◌≡◌, ℕ, suc, cond, true, false, length, List, [], ◌∷◌, ◌++◌, Some, None, Option, Ok, Err, Result, Bool, nat_lt}
use Rattle.std.specs.Str.{bytes_eq}
use Rattle.charts.specs.declared.faults.Rule.TheVariants.{Lengths, Events}
use Rattle.words.specs.declared.faults.Cause.TheVariants.{InstanceRepeated, Chart}
use Rattle.words.specs.declared.faults.Fault.{Fault}
use Rattle.words.specs.Sentences.{Placed, Sentence}
use Rattle.words.specs.Reading.{placed, others}
use Rattle.items.specs.declared.size.Size.{Size as SizeText}
use Rattle.sentences.specs.Wants.{at_byte, among}
use Rattle.items.specs.Items.{Item, Items, instance_named, event, instance_ends, items_from}
use Rattle.items.specs.declared.parts.Item.{Item as Read}
use Rattle.items.specs.declared.parts.Item.TheVariants.{Instance, Event, InstanceEnd, End}
use Rattle.items.specs.Parsing.{title_in}

-- the names of the instances
abbrev pub names_in : List Item → List Placed
names_in [] = []
names_in (instance_named n ∷ is) = n ∷ names_in is
names_in (event e ∷ is) = names_in is
names_in (instance_ends ∷ is) = names_in is

-- how many events there are
abbrev pub events_in : List Item → ℕ
events_in [] = 0
events_in (instance_named n ∷ is) = events_in is
events_in (event e ∷ is) = suc (events_in is)
events_in (instance_ends ∷ is) = events_in is

-- the first of the names that stands among those before it, or among ns
abbrev pub first_repeated : List Placed → List Placed → Option Placed
first_repeated ns [] = None
first_repeated ns (n ∷ more) = cond (among ns n.bytes) (Some n) (first_repeated (ns ++ (n ∷ [])) more)

-- an instance that is named twice, and then the outcome: a name stands in the text before what is refused there
abbrev pub counted_if : Option Placed → Result (Unit {0}) Fault → ℕ × ℕ → Result (ℕ × ℕ) Fault
counted_if (Some n) outcome c = Err (at_byte InstanceRepeated n.start)
counted_if None (Ok u) c = Ok c
counted_if None (Err f) c = Err f

-- how many instances and events there are, or the first fault
abbrev pub counted : Items → Result (ℕ × ℕ) Fault
counted is = counted_if (first_repeated [] (names_in is.items)) is.outcome (length (names_in is.items), events_in is.items)

-- the same within the limits of a chart, instances before events
abbrev pub limited : Result (ℕ × ℕ) Fault → Result (ℕ × ℕ) Fault
limited (Err f) = Err f
limited (Ok c) = cond (nat_lt 32 c.0) (Err (at_byte (Chart Lengths) 0)) (cond (nat_lt 4096 c.1) (Err (at_byte (Chart Events) 0)) (Ok c))

-- a text's name, and how many instances and events it has
pub record Size : Type 0 where
  pub title : Placed
  pub instances : ℕ
  pub events : ℕ

-- the size by the name and the numbers; the fault of the name comes first
abbrev pub sized : Result Placed Fault → Result (ℕ × ℕ) Fault → Result Size Fault
sized (Err f) r = Err f
sized (Ok t) (Err f) = Err f
sized (Ok t) (Ok c) = Ok (record { title = t; instances = c.0; events = c.1 })

-- what a text comes to
abbrev pub surveyed : List Sentence → Result Size Fault
surveyed ss = sized (title_in ss) (limited (counted (items_from false (others ss))))

-- the items of a text, none where it has no name
abbrev pub items_if : Result Placed Fault → Items → List Item
items_if (Ok t) is = is.items
items_if (Err f) is = []

-- the items of a text, none where its name cannot be read
abbrev pub items_in : List Sentence → List Item
items_in ss = items_if (title_in ss) (items_from false (others ss))

-- an item that was read begins an instance of this name
abbrev pub is_named : Read → List ℕ → Bool
is_named (Instance w) name = bytes_eq w.bytes.now name
is_named (Event e) name = false
is_named InstanceEnd name = false
is_named End name = false

-- an item that was read is the end
abbrev pub is_end : Read → Bool
is_end (Instance w) = false
is_end (Event e) = false
is_end InstanceEnd = false
is_end End = true

-- the numbers that were counted, or the fault
abbrev pub Counts : Items → Result (ℕ × ℕ) Fault → Type 0
Counts is r = counted is ≡ r

-- the size that was answered
abbrev pub size_of : SizeText → Size
size_of s = record { title = placed s.title; instances = s.instances; events = s.events }

-- the size of the text, or its fault
abbrev pub Surveys : List Sentence → Result SizeText Fault → Type 0
Surveys ss (Ok s) = surveyed ss ≡ Ok (size_of s)
Surveys ss (Err f) = surveyed ss ≡ Err f
