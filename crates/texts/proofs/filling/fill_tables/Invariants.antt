use Rattle.std.proofs.Common.{length}
use Rattle.words.specs.Sentences.{sentences}
use Rattle.items.specs.Parsing.{items_left}
use Rattle.items.specs.Surveys.{items_in}
use Rattle.texts.specs.Directories.{named_in}
use Rattle.texts.proofs.Filled.{Drafting}
use Rattle.texts.proofs.filling.fill_tables.Given as goal

abbrev pub invariant-loop-item : goal.invariant-loop-item
invariant-loop-item l =
    Drafting (named_in (items_in (sentences l.text))) (items_in (sentences l.text)) (items_left l.parser) l.filling l.lengths l.events (length l.fn.lengths) (length l.fn.events)

abbrev pub decreases-loop-item : goal.decreases-loop-item
decreases-loop-item l = length (items_left l.parser).items
