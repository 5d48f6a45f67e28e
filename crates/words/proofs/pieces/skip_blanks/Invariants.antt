use Rattle.words.proofs.Skipping.{Skipped}
use Rattle.words.proofs.pieces.skip_blanks.Given as goal

abbrev pub invariant-loop-blanks : goal.invariant-loop-blanks
invariant-loop-blanks l = Skipped l.text l.at l.blanks
