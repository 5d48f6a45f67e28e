use Rattle.std.proofs.Common.{ℕ, Option}
use Rattle.charts.specs.declared.parts.Event.{Event}
use Rattle.tables.specs.Findings.{Tells}
use Rattle.tables.proofs.Passing.{Clean}
use Rattle.tables.proofs.layout.Layout.check_each.Given as goal

abbrev pub invariant-loop-k : goal.invariant-loop-k
invariant-loop-k g l =
    (rule : ℕ → Event → Option ℕ) → Tells rule (goal.F-post g l.check) → Clean rule l.self.lengths.now l.self.events.now l.k
