-- The fault of a chart, found in its text.
use Rattle.std.specs.Prelude.{List, Option, option_map}
use Rattle.charts.specs.declared.faults.Fault.{Fault as ChartFault}
use Rattle.words.specs.declared.faults.Cause.TheVariants.{Chart}
use Rattle.words.specs.declared.faults.Fault.{Fault}
use Rattle.sentences.specs.Wants.{at_byte}
use Rattle.items.specs.Items.{Item}
use Rattle.texts.specs.Readings.{broken}
use Rattle.texts.specs.Starts.{start_in}

-- where the event starts that breaks a rule
abbrev pub fault_in : List Item → Option ChartFault → Option Fault
fault_in is f = option_map (λ f. at_byte (Chart (broken f.number)) (start_in f.instance f.event is)) f
