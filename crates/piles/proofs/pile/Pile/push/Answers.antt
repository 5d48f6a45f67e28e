use Rattle.std.proofs.Common.{Ok, vec_items, ap}
use Rattle.piles.proofs.Stacking.{stack_copied}
use Rattle.piles.proofs.pile.Pile.push.Goals as goal

pub returns : goal.returns
returns g c =
    let same = c.in_ok-new.ensures in
    rw (← c.self.view_is) (ap Ok (stack_copied (vec_items c.self.inside.charts) (vec_items c.push.new.self) c.in_ok-new.field-0 _ _ same.0 same.1 c.in_ok-push.ensures.items))
