use Rattle.std.proofs.Common.{take}
use Rattle.copies.proofs.Events.{same_slots}
use Rattle.copies.proofs.Mates.{events_kept}
use Rattle.copies.proofs.linker.Linker.fill.Goals as goal

pub returns-clause-same : goal.returns-clause-same
returns-clause-same c =
    let so = c.loop-slot in
    events_kept 0 _ c.args.slots.now so.slot-items (same_slots so.slot-items (take _ c.args.slots.now) so.auto.slot-items so.invariant.same)
