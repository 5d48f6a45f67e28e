-- Which chart texts are taken.
use Rattle.std.specs.Prelude.{◌≡◌, ℕ, ◌<◌, ◌⊎◌, List, length, Ok, Err, Result}
use Rattle.charts.specs.Lists.{size}
use Rattle.words.specs.declared.faults.Cause.TheVariants.{ShortTable}
use Rattle.words.specs.declared.faults.Fault.{Fault}
use Rattle.sentences.specs.Wants.{at_byte}
use Rattle.grammar.specs.Texts.{ChartText}
use Rattle.grammar.specs.Writing.{Writes}
use Rattle.texts.specs.declared.reading.Reading.{Reading}
use Rattle.texts.specs.Readings.{Rooms, Tables, answer_in}
use Rattle.texts.specs.Names.{instance_names, message_names, action_names}
use Rattle.texts.specs.Charted.{lists_of}
use Rattle.texts.specs.Static.{Static}
use Rattle.texts.specs.Builds.{Builds}

-- a table has fewer rows than the chart needs
abbrev pub TooShortFor : Rooms → ChartText → Type 0
TooShortFor r c =
    (r.lengths < length (lists_of c))
    ⊎ ((r.events < size (lists_of c)) ⊎ ((r.instances < length (instance_names c)) ⊎ ((r.messages < length (message_names c)) ⊎ (r.actions < length (action_names c)))))

-- the text writes a chart that keeps the rules, and the tables hold it; or such a chart, if the text writes one, has no room in the tables
abbrev pub Takes : List ℕ → Rooms → Result Reading Fault → Tables → Type 0
Takes text r (Ok a) t = (c : ChartText) × Writes text c × Static c × Builds text c (answer_in a) t
Takes text r (Err f) t = (c : ChartText) → Writes text c → Static c → (f ≡ at_byte ShortTable 0) × TooShortFor r c
