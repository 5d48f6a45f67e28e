use Rattle.std.proofs.Common.{refl, sym, ◌∙◌}
use Rattle.tables.proofs.Indexing.{small_number, unnoted, seen_skip, seen_note}
use Rattle.tables.proofs.layout.Layout.note_message.Goals as goal

pub returns-else-is_some-clause-seen : goal.returns-else-is_some-clause-seen
returns-else-is_some-clause-seen c =
    let es = c.args.self.now.events.now in
    seen_note es c.args.k c.args.places.now c.requires.seen c.requires.within _
    (small_number c.args.self.now.lengths.now es c.args.k c.requires.formed c.requires.within)
    c.in-Some.end c.in-Some.ensures (sym c.find.ensures ∙ unnoted c.find.result c.if-is_some.ensures) c.note.ensures

pub returns-in_default-clause-seen : goal.returns-in_default-clause-seen
returns-in_default-clause-seen c =
    seen_skip c.args.self.now.events.now c.args.k c.args.places.now c.requires.seen c.requires.within _ c.in_default.ensures refl
