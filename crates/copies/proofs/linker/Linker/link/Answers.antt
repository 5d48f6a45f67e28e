use Rattle.std.proofs.Common.{◌≡◌, ◌<◌, ℕ, false, length, MatchOption, Option, sym, refl, ◌∙◌, subst, arith}
use Rattle.copies.specs.Slots.{between, mate_of}
use Rattle.copies.proofs.Links.{mate_noted}
use Rattle.copies.proofs.linker.Linker.link.Goals as goal

pub returns : goal.returns
returns c L i k so a =
    let x = c.args.self.now in
    let e = c.args.event in
    let wide = so.wide in
    let w : e.peer < length L = omega arith in
    let found = c.mate.ensures ∙ mate_noted x L so i k e a w c.in_ok-end.end c.in_ok-end.ensures.0 in
    subst (λ (o : Option ℕ). MatchOption o (between L e ≡ false) (λ mate. mate ≡ mate_of L i e)) (sym found) refl
