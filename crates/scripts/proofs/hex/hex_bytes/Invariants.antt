use Rattle.std.proofs.Common.{◌≡◌, ◌++◌, length, vec_items}
use Rattle.scripts.specs.Hex.{bytes_of}
use Rattle.scripts.proofs.hex.hex_bytes.Given as goal

-- the bytes so far, and those that what is left writes, are those that all digits write
abbrev pub invariant-pairs : goal.invariant-pairs
invariant-pairs l = vec_items l.bytes ++ bytes_of l.rest ≡ bytes_of l.initial.digits

abbrev pub decreases-pairs : goal.decreases-pairs
decreases-pairs l = length l.rest
