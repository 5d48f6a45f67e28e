use Rattle.std.proofs.Common.{sym, ap, ◌∙◌}
use Rattle.piles.specs.Stack.{stack_of, top_of}
use Rattle.piles.proofs.Stacking.{top_shown}
use Rattle.piles.proofs.pile.Pile.top.Goals as goal

pub returns : goal.returns
returns c =
    ap top_of (sym c.self.view_is) ∙ ap (λ xs. top_of (stack_of xs)) (sym c.as_slice.ensures.value) ∙ top_shown c.as_slice.result.now c.last.result c.last.ensures.item
