use Rattle.std.proofs.Common.{take}
use Rattle.std.specs.Fmt.{HasWritten, IsPlainFormatter}
use Rattle.charts.specs.Lists.{column}
use Rattle.listings.specs.Report.{event_lines}
use Rattle.listings.proofs.reports.write_events.Given as goal

abbrev pub invariant-loop-index : goal.invariant-loop-index
invariant-loop-index g l =
    IsPlainFormatter l.initial.f → HasWritten g.W.Write.write_str_gives l.initial.f (event_lines l.instance 0 (take l.index (column (g.C.Chart.lists l.chart) l.instance))) l.f
