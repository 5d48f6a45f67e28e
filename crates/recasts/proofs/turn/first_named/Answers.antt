use Rattle.std.proofs.Common.{◌≡◌, ℕ, eqb, position, unwrap_or, Option, ap, ◌∙◌, rules, tests}
use Rattle.std.proofs.lemmas.Iterator.{YieldsList-from_slice}
use Rattle.std.proofs.lemmas.Iterator.Search.{position_from_yields_List}
use Rattle.recasts.proofs.Turning.{position_from}
use Rattle.recasts.proofs.turn.first_named.Goals as goal

pub returns : goal.returns
returns c =
    let t = c.args.to.now in
    let first : c.position.result ≡ position (λ x. eqb x c.args.j) t =
    position_from_yields_List (λ x. eqb x c.args.j) _ _ c.position.result c.position.ensures.ran (YieldsList-from_slice t cc) (λ x b q k. search (rules, tests)) in
    let same : c.map.result ≡ c.position.result = search rules in
    ap (λ (o : Option ℕ). unwrap_or o 32) (same ∙ first) ∙ position_from t c.args.j c.requires
