use Rattle.std.proofs.Common.{rules}
use Rattle.piles.specs.Meanings.{after_meaning}
use Rattle.piles.proofs.pile.Pile.join_after.Goals as goal

pub returns-clause-joined : goal.returns-clause-joined
returns-clause-joined c = c.join.ensures.joined after_meaning (λ a b j made. search rules)
