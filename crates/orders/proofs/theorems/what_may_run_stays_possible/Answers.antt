use Rattle.orders.proofs.Monotone.{may_stays}
use Rattle.orders.proofs.theorems.what_may_run_stays_possible.Goals as goal

pub returns : goal.returns
returns c = may_stays
