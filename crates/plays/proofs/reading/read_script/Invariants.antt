use Rattle.std.proofs.Common.{length, Result}
use Rattle.piletexts.specs.Lines.{lines_of}
use Rattle.piles.specs.Applied.{standing}
use Rattle.plays.specs.Plans.{plan_of}
use Rattle.plays.specs.Troubles.{Trouble}
use Rattle.plays.specs.Scripts.{Script}
use Rattle.plays.specs.Scripted.{Scripted, Writes}
use Rattle.plays.proofs.reading.read_script.Given as goal

-- what comes of the lines that are left comes of the text
abbrev pub invariant-loop-line : goal.invariant-loop-line
invariant-loop-line l =
    (r : Result Script Trouble) →
    Scripted (plan_of l.draft) (standing l.draft.pile l.lines.number (lines_of l.lines.rest.now)) r → Writes l.text r

abbrev pub decreases-loop-line : goal.decreases-loop-line
decreases-loop-line l = length (lines_of l.lines.rest.now)
