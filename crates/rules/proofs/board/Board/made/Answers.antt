use Rattle.std.proofs.Common.{◌≡◌, ℕ, ◌+◌, rules, ◌∙◌, ap, arith}
use borrow.Author.Tests.{tests}
use Rattle.std.proofs.lemmas.Iterator.{YieldsList-from_range, YieldsList-from_map}
use Rattle.std.proofs.lemmas.Iterator.Adapters.{total_from_yields_List, at_most_from_yields_List, fits_from_length}
use Rattle.std.proofs.lemmas.List.FromFn.{length-range_with_len}
use Rattle.charts.proofs.Bounds.{count_size}
use Rattle.copies.specs.Kept.{kept}
use Rattle.copies.proofs.Kept.{kept_sound}
use Rattle.rules.specs.Places.{place_of}
use Rattle.rules.specs.Made.{sum_below}
use Rattle.rules.proofs.Made.{total_below}
use Rattle.rules.proofs.board.Board.made.Goals as goal

pub sum-requires-clause-fits : goal.sum-requires-clause-fits
sum-requires-clause-fits c =
    let b = c.args.self.now in
    let narrow = (kept_sound b.copy).few_instances in
    let long = length-range_with_len 0 c.width.result in
    fits_from_length _ _ 32 _ (at_most_from_yields_List (YieldsList-from_range 0 c.width.result c.width.result c.map.ensures.source (omega arith)) (omega arith)) c.map.ensures.closure (omega arith)
    (λ x r q k.
    let is : r ≡ place_of b.rows.table x = search (rules, tests) in
    let few = (kept_sound b.copy).few_events in
    let within = b.within x in
    let some = count_size (kept b.copy) x in
    (search (rules, tests), omega arith))

pub returns : goal.returns
returns c =
    let p = place_of c.args.self.now.rows.table in
    total_from_yields_List (λ (s x : ℕ). s + x) 0 c.sum.result c.sum.ensures.ran
    (YieldsList-from_map _ p (YieldsList-from_range 0 c.width.result c.width.result c.map.ensures.source (omega arith)) c.map.ensures.closure (λ x r q k. search (rules, tests)))
    ∙ total_below p c.width.result ∙ ap (sum_below p) c.width.ensures
