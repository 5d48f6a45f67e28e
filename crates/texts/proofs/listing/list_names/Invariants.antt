use Rattle.std.proofs.Common.{length}
use Rattle.words.specs.Sentences.{sentences}
use Rattle.items.specs.Parsing.{items_left}
use Rattle.items.specs.Surveys.{items_in}
use Rattle.texts.proofs.Listed.{Listing}
use Rattle.texts.proofs.listing.list_names.Given as goal

abbrev pub invariant-loop-item : goal.invariant-loop-item
invariant-loop-item l =
    Listing (items_in (sentences l.text)) (items_left l.parser) l.directory l.instances l.messages l.actions (length l.fn.instances) (length l.fn.messages) (length l.fn.actions)

abbrev pub decreases-loop-item : goal.decreases-loop-item
decreases-loop-item l = length (items_left l.parser).items
