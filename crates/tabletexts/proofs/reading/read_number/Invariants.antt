use Rattle.std.proofs.Common.{◌≡◌, ◌≤◌, drop}
use Rattle.tabletexts.specs.Numeral.{numeral, numeral_after}
use Rattle.tabletexts.proofs.reading.read_number.Given as goal

abbrev pub invariant-loop-b : goal.invariant-loop-b
invariant-loop-b l = (l.value ≤ l.most) × (numeral_after l.value (drop l.b-index l.field) ≡ numeral l.field)
