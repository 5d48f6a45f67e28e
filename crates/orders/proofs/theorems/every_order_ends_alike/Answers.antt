use Rattle.orders.proofs.Verdicts.{end_is_greatest}
use Rattle.orders.proofs.theorems.every_order_ends_alike.Goals as goal

pub returns : goal.returns
returns c = end_is_greatest
