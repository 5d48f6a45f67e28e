use Rattle.std.proofs.Common.{rules}
use Rattle.tabletexts.proofs.Turns.{four_fields}
use Rattle.tabletexts.proofs.reading.read_event.Goals as goal

pub returns-then-is_some : goal.returns-then-is_some
returns-then-is_some c = search (rules, four_fields)
