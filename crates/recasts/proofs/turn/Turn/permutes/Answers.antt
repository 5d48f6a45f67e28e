use Rattle.std.proofs.Common.{◌≡◌, ◌∙◌, ltb, take, rules, tests}
use Rattle.std.specs.List.{list_all}
use Rattle.std.proofs.lemmas.Iterator.{YieldsList-from_slice}
use Rattle.std.proofs.lemmas.Iterator.Search.{all_from_yields_List}
use Rattle.recasts.proofs.Turning.{found_turns}
use Rattle.recasts.proofs.turn.Turn.permutes.Goals as goal

pub returns : goal.returns
returns c =
    let t = c.args.self.now in
    let w = c.args.width in
    let all : c.all.result ≡ list_all (λ x. ltb x w) (take w t.back) =
    all_from_yields_List (λ x. ltb x w) _ _ c.all.result c.all.ensures.ran (YieldsList-from_slice (take w t.back) cc) (λ x b q k. search (rules, tests)) in
    all ∙ found_turns t.to t.back w t.names t.places c.requires t.inverse
