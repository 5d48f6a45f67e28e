use Rattle.std.proofs.Common.{◌+◌, ◌++◌, [], ◌∷◌, length, rules, slice_set, refl, sym, ap, ◌∙◌, subst}
use Rattle.charts.specs.declared.parts.Event.{Event}
use Rattle.items.specs.declared.parts.Item.{Item as Read}
use Rattle.texts.specs.declared.filling.Filling.{Filling}
use Rattle.texts.specs.Drafts.{Written, HasRow, with_read, unknown_by}
use Rattle.texts.specs.Resolving.{IsUnknown}
use Rattle.texts.proofs.Resolved.{written_event, written_end, writes_by}
use Rattle.texts.proofs.filling.Filling.take.Goals as goal

pub returns-in_err-events-in-Event-clause-writes : goal.returns-in_err-events-in-Event-clause-writes
returns-in_err-events-in-Event-clause-writes c = λ s d h w.
    writes_by (unknown_by s.instances c.args.item) (with_read s d c.args.item) _ c.args.lengths.now c.args.events.now c.in_err-events-in-Event.field-0.0 c.from_residual.result (search rules)
    (subst (λ (x : Read). IsUnknown (unknown_by s.instances x) c.in_err-events-in-Event.field-0.0) (sym c.in-Event.is) (c.in_err-events-in-Event.ensures s h))

pub returns-in_ok-events-in-Event-clause-writes : goal.returns-in_ok-events-in-Event-clause-writes
returns-in_ok-events-in-Event-clause-writes c = λ s d h w.
    let row = c.in_ok-events-in-Event.field-0 in
    let f = c.args.self.now in
    let g : Filling = record { instances = f.instances; count = f.count + 1; events = f.events + 1 } in
    let room = subst (HasRow f (length c.args.lengths.now) (length c.args.events.now)) c.in-Event.is c.requires.row in
    let found = c.in_ok-events-in-Event.ensures s h in
    let written = written_event f g c.args.lengths.now c.args.events.now d w row room.0 refl refl refl in (
      ap (unknown_by s.instances) c.in-Event.is ∙ found.0,
      subst (λ (x : Read). Written g c.args.lengths.now (slice_set c.args.events.now f.events row) (with_read s d x)) (sym c.in-Event.is)
          (subst (λ (x : Event). Written g c.args.lengths.now (slice_set c.args.events.now f.events row) (record { lengths = d.lengths; count = d.count + 1; events = d.events ++ (x ∷ []) })) found.1 written),
    )

pub returns-in-InstanceEnd-clause-writes : goal.returns-in-InstanceEnd-clause-writes
returns-in-InstanceEnd-clause-writes c = λ s d h w.
    let f = c.args.self.now in
    let g : Filling = record { instances = f.instances + 1; count = 0; events = f.events } in
    let room = subst (HasRow f (length c.args.lengths.now) (length c.args.events.now)) c.in-InstanceEnd.is c.requires.row in (
      ap (unknown_by s.instances) c.in-InstanceEnd.is,
      subst (λ (x : Read). Written g (slice_set c.args.lengths.now f.instances f.count) c.args.events.now (with_read s d x)) (sym c.in-InstanceEnd.is)
          (written_end f g c.args.lengths.now c.args.events.now d w room refl refl refl),
    )
