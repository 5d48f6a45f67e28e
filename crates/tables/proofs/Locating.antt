-- Where the way to an event's place leads.
use Rattle.std.proofs.Common.{◌≡◌, ℕ, ◌+◌, List, drop}
use Rattle.checks.specs.Cut.{instance_of, index_of}

-- the instances from i on, with so many events to pass over, lead to the place
pub record On (ns : List ℕ) (i left : ℕ) (at : ℕ) : Type 0 where
  pub instance : instance_of ns at ≡ i + instance_of (drop i ns) left
  pub index : index_of ns at ≡ index_of (drop i ns) left
