use Rattle.std.proofs.Common.{◌≡◌, ◌++◌, [], take}
use Rattle.judged.specs.Shown.{step_lines}
use Rattle.judged.proofs.Stepping.{Counted}
use Rattle.judged.proofs.steps.add_steps.Given as goal

abbrev pub invariant-loop-at : goal.invariant-loop-at
invariant-loop-at l = (l.lines.items ≡ l.fn.lines.items ++ step_lines l.listing [] (take l.at l.order)) × Counted (take l.at l.order) l.positions
