use Rattle.std.proofs.Common.{length}
use Rattle.words.specs.Sentences.{sentences}
use Rattle.items.specs.Parsing.{items_left}
use Rattle.items.specs.Surveys.{items_in}
use Rattle.texts.specs.Starts.{start_in}
use Rattle.texts.proofs.Started.{Starting}
use Rattle.texts.proofs.starts.start_of.Given as goal

abbrev pub invariant-loop-item : goal.invariant-loop-item
invariant-loop-item l = Starting (start_in l.fn.instance l.fn.index (items_in (sentences l.text))) (items_left l.parser) l.instances l.events

abbrev pub decreases-loop-item : goal.decreases-loop-item
decreases-loop-item l = length (items_left l.parser).items
