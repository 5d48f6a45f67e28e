use Rattle.orders.proofs.Verdicts.{state_is_one}
use Rattle.orders.proofs.theorems.an_instance_has_one_state.Goals as goal

pub returns : goal.returns
returns c = state_is_one
