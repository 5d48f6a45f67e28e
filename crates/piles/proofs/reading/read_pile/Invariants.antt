use Rattle.std.proofs.Common.{ℕ, List, [], length, Result}
use Rattle.piletexts.specs.Lines.{lines_of}
use Rattle.piles.specs.Applied.{standing}
use Rattle.piles.specs.Meanings.{Meaning}
use Rattle.piles.specs.Piled.{Piled}
use Rattle.piles.proofs.reading.read_pile.Given as goal

-- what comes of the lines that are left comes of the text
abbrev pub invariant-loop-line : goal.invariant-loop-line
invariant-loop-line l =
    (o : Result (List Meaning) ℕ) →
    Piled (standing l.pile l.lines.number (lines_of l.lines.rest.now)) o → Piled (standing [] 0 (lines_of l.text)) o

abbrev pub decreases-loop-line : goal.decreases-loop-line
decreases-loop-line l = length (lines_of l.lines.rest.now)
