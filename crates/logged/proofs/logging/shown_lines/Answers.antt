use Rattle.std.proofs.Common.{ℕ, refl}
use Rattle.std.specs.Global.{Vec}
use Rattle.std.proofs.lemmas.Result.{IfOk-weaker}
use Rattle.texts.specs.Readings.{answer_in}
use Rattle.texts.specs.Roomy.{held}
use Rattle.judged.proofs.Holding.{read_chart, faultless_held}
use Rattle.logged.specs.Shown.{ShowsLog, Shows}
use Rattle.logged.proofs.Showing.{shows_read}
use Rattle.logged.proofs.logging.shown_lines.Goals as goal

pub returns-in-Ok : goal.returns-in-Ok
returns-in-Ok c =
    let a = c.in-Ok.reading in
    let t = held c.in-Ok.tables in
    let l = c.listing_of-listing.result in
    IfOk-weaker c.log_lines.result (λ (lines : Vec ℕ). ShowsLog l c.args.log.now lines.items) (λ (lines : Vec ℕ). Shows c.args.text.now c.args.log.now lines.items)
    (λ (lines : Vec ℕ). shows_read c.args.text.now a t l c.args.log.now lines.items c.in-Ok.ensures.of_text c.in-Ok.ensures.reads c.listing_of-listing.ensures) c.log_lines.ensures

pub log_lines-requires : goal.log_lines-requires
log_lines-requires c =
    let a = c.in-Ok.reading in
    let t = held c.in-Ok.tables in
    let k = read_chart c.args.text.now a t c.in-Ok.ensures.of_text c.in-Ok.ensures.reads in
    faultless_held c.args.text.now k.0 (answer_in a) t c.listing_of-listing.result a refl k.3 c.listing_of-listing.ensures
