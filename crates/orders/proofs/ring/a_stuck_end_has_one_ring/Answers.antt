use Rattle.orders.proofs.Rings.{stuck_has_ring}
use Rattle.orders.proofs.ring.a_stuck_end_has_one_ring.Goals as goal

pub returns : goal.returns
returns c = stuck_has_ring
