use Rattle.checks.specs.Rules.{not_repeated}
use Rattle.tables.specs.Seen.{Seen}
use Rattle.tables.proofs.Passing.{Clean}
use Rattle.tables.proofs.layout.Layout.index_messages.Given as goal

abbrev pub invariant-loop-k : goal.invariant-loop-k
invariant-loop-k l =
    record { clean : Clean (not_repeated l.self.events.now) l.self.lengths.now l.self.events.now l.k; seen : Seen l.self.events.now l.k l.places }
