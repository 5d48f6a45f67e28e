use Rattle.std.proofs.Common.{refl}
use Rattle.std.proofs.lemmas.Bool.{both_ways}
use Rattle.texts.specs.Roomy.{held}
use Rattle.lines.specs.Listings.{has_rows}
use Rattle.judged.proofs.Holding.{all_rows}
use Rattle.logged.proofs.logging.listing_of.Goals as goal

pub unreachable-requires : goal.unreachable-requires
unreachable-requires c =
    let a = c.args.reading in
    let t = held c.args.tables.now in
    both_ways (has_rows a t.lengths t.events t.instances t.messages t.actions) c.in_default.ensures (all_rows a.text.now a t refl c.requires)
