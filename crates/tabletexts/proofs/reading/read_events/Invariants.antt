use Rattle.std.proofs.Common.{◌≡◌, ◌+◌, ◌≤◌, length, vec_items}
use Rattle.std.specs.Iterator.Adapters.{enumerate_source, enumerate_count}
use Rattle.tabletexts.specs.Table.{events_from, lines}
use Rattle.tabletexts.proofs.Turns.{onto}
use Rattle.tabletexts.proofs.reading.read_events.Given as goal

abbrev pub invariant-loop-i : goal.invariant-loop-i
invariant-loop-i l =
    (enumerate_count l.i-iterator + length (enumerate_source l.i-iterator).0.now ≤ length l.text) × (onto (vec_items l.events) (events_from (enumerate_count l.i-iterator + 2) (lines (enumerate_source l.i-iterator).0.now)) ≡ events_from 2 (lines l.text))
