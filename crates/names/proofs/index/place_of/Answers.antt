use Rattle.std.proofs.Common.{rules}
use Rattle.std.proofs.lemmas.Fn.{always_returns_same}
use Rattle.names.specs.Entries.{by_bytes}
use Rattle.names.proofs.Searching.{found}
use Rattle.names.proofs.index.place_of.Goals as goal

pub returns : goal.returns
returns c =
    let facts = c.binary_search_by.ensures in
    found _ _ _ c.requires facts.bound (facts.position (λ e. by_bytes e.name.now c.args.name.now) (always_returns_same _ _ _ (λ a r g called. search rules)))
