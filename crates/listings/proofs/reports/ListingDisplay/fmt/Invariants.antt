use Rattle.std.proofs.Common.{take}
use Rattle.std.specs.Fmt.{HasWritten, IsPlainFormatter}
use Rattle.listings.specs.Report.{instance_lines}
use Rattle.listings.proofs.reports.ListingDisplay.fmt.Given as goal

abbrev pub invariant-loop-i : goal.invariant-loop-i
invariant-loop-i g l =
    IsPlainFormatter l.initial.f → HasWritten g.W.Write.write_str_gives l.initial.f (instance_lines 0 (take l.i (g.C.Chart.lists l.chart))) l.f
