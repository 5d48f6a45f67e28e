use Rattle.std.proofs.Common.{◌≡◌, length, drop, vec_items}
use Rattle.tabletexts.specs.Table.{fields, lengths_in, lengths_on}
use Rattle.tabletexts.proofs.Turns.{onto}
use Rattle.tabletexts.proofs.reading.read_lengths.Given as goal

abbrev pub invariant-loop-field : goal.invariant-loop-field
invariant-loop-field l =
    onto (vec_items l.lengths) (lengths_in (drop (length l.yielded) (fields l.line))) ≡ lengths_on l.line
