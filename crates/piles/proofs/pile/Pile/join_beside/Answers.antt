use Rattle.std.proofs.Common.{rules}
use Rattle.piles.specs.Meanings.{beside_meaning}
use Rattle.piles.proofs.pile.Pile.join_beside.Goals as goal

pub returns-clause-joined : goal.returns-clause-joined
returns-clause-joined c = c.join.ensures.joined beside_meaning (λ a b j made. search rules)
