use Rattle.copies.specs.Reranked.{Reranked}
use Rattle.copies.proofs.Rerankings.{RankedTo}
use Rattle.copies.proofs.grid.Grid.rank.Given as goal

abbrev pub invariant-loop-i : goal.invariant-loop-i
invariant-loop-i l = record { same : Reranked l.initial.self l.self; ranked : RankedTo l.initial.self l.self l.i }
