use Rattle.std.proofs.Common.{length}
use Rattle.items.specs.Parsing.{items_left}
use Rattle.items.proofs.Counts.{Counting}
use Rattle.items.proofs.surveying.count_items.Given as goal

abbrev pub invariant-loop-item : goal.invariant-loop-item
invariant-loop-item l = Counting (items_left l.parser) (items_left l.left) l.tally

abbrev pub decreases-loop-item : goal.decreases-loop-item
decreases-loop-item l = length (items_left l.left).items
