use Rattle.std.proofs.Common.{ℕ, refl}
use Rattle.std.proofs.lemmas.Bool.{both_ways}
use Rattle.std.proofs.lemmas.Result.{IfOk-weaker}
use Rattle.texts.specs.Readings.{answer_in}
use Rattle.texts.specs.Roomy.{held}
use Rattle.lines.specs.Listings.{has_rows}
use Rattle.std.specs.Global.{Vec}
use Rattle.judged.specs.Shown.{ShowsVerdict, Shows}
use Rattle.judged.proofs.Holding.{read_chart, all_rows, faultless_held, shows_read}
use Rattle.judged.proofs.judging.reading_lines.Goals as goal

pub unreachable-requires : goal.unreachable-requires
unreachable-requires c =
    let a = c.args.reading in
    let t = held c.args.tables.now in
    both_ways (has_rows a t.lengths t.events t.instances t.messages t.actions) c.in_default.ensures (all_rows a.text.now a t refl c.requires)

pub listed_lines-requires : goal.listed_lines-requires
listed_lines-requires c =
    let a = c.args.reading in
    let t = held c.args.tables.now in
    let k = read_chart a.text.now a t refl c.requires in
    faultless_held a.text.now k.0 (answer_in a) t c.in-Some.listing a refl k.3 c.in-Some.ensures.1

pub returns : goal.returns
returns c =
    let t = held c.args.tables.now in
    IfOk-weaker c.listed_lines.result (λ (lines : Vec ℕ). ShowsVerdict c.in-Some.listing lines.items) (λ (lines : Vec ℕ). Shows c.args.reading.text.now lines.items) (λ (lines : Vec ℕ). shows_read c.args.reading t c.in-Some.listing lines.items c.requires c.in-Some.ensures.1) c.listed_lines.ensures
