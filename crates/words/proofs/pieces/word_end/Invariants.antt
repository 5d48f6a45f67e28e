use Rattle.words.proofs.Wording.{Spelled}
use Rattle.words.proofs.pieces.word_end.Given as goal

abbrev pub invariant-loop-length : goal.invariant-loop-length
invariant-loop-length l = Spelled l.text l.start l.length
