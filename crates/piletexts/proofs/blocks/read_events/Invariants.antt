use Rattle.std.proofs.Common.{◌≡◌, [], length, vec_items}
use Rattle.piletexts.specs.Blocks.{events_until}
use Rattle.piletexts.specs.Lines.{lines_of}
use Rattle.piletexts.proofs.blocks.read_events.Given as goal

abbrev pub invariant-loop-line : goal.invariant-loop-line
invariant-loop-line l =
    events_until (vec_items l.events) l.lines.number (lines_of l.lines.rest.now) ≡ events_until [] l.initial.lines.number (lines_of l.initial.lines.rest.now)

abbrev pub decreases-loop-line : goal.decreases-loop-line
decreases-loop-line l = length (lines_of l.lines.rest.now)
