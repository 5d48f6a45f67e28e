use Rattle.process.proofs.theorems.annex_b_allows_exactly_the_orders.Goals as goal
use Rattle.process.proofs.Exacts.{every_sound_chart}

pub returns : goal.returns
returns c = every_sound_chart
