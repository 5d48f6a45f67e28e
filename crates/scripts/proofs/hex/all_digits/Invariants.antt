use Rattle.std.proofs.Common.{◌≡◌, length}
use Rattle.scripts.specs.Hex.{all_digits}
use Rattle.scripts.proofs.hex.all_digits.Given as goal

-- there are only digits among what is left exactly where there are only digits
abbrev pub invariant-pairs : goal.invariant-pairs
invariant-pairs l = all_digits l.digits ≡ all_digits l.initial.digits

abbrev pub decreases-pairs : goal.decreases-pairs
decreases-pairs l = length l.digits
