use Rattle.computed.proofs.Ties.{computed}
use Rattle.computed.proofs.theorems.relations_on_orders_are_computed.Goals as goal

pub returns : goal.returns
returns c = computed
