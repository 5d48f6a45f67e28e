use Rattle.words.specs.Sentences.{sentences}
use Rattle.items.specs.Surveys.{items_in}
use Rattle.items.specs.Parsing.{items_left}
use Rattle.items.proofs.Passing.{Passed}
use Rattle.items.proofs.repeats.named_among.Given as goal

abbrev pub invariant-loop : goal.invariant-loop
invariant-loop l = Passed (items_in (sentences l.text)) l.counter (items_left l.parser).items l.name
