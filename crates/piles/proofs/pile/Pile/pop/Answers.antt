use Rattle.std.proofs.Common.{Result, subst, sym}
use Rattle.flats.specs.declared.flat.Flat.{Flat}
use Rattle.tabletexts.specs.declared.parts.Unread.{Unread}
use Rattle.piles.specs.Stack.{Popped, stack_of}
use Rattle.piles.proofs.Stacking.{popped}
use Rattle.piles.proofs.pile.Pile.pop.Goals as goal

pub returns : goal.returns
returns c =
    rw (← c.self.view_is)
    (subst (λ (r : Result Flat Unread). Popped c.args.line (stack_of c.self.inside.charts.items) r (stack_of c.pop.new.self.items)) (sym c.ok_or.ensures.value)
    (popped c.self.inside.charts c.pop.new.self c.pop.result c.args.line c.pop.ensures.items c.pop.ensures.cases))
