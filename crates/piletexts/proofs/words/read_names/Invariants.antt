use Rattle.std.proofs.Common.{length, drop}
use Rattle.tabletexts.specs.Pieces.{pieces}
use Rattle.piletexts.specs.Commands.{names_in}
use Rattle.piletexts.proofs.Naming.{Named}
use Rattle.piletexts.proofs.words.read_names.Given as goal

abbrev pub invariant-loop-given : goal.invariant-loop-given
invariant-loop-given l =
    let fs = pieces 32 l.fields in
    Named l.names (length l.yielded) (drop (length l.yielded) fs) (names_in 32 fs)
