use Rattle.std.proofs.Common.{rules}
use Rattle.piletexts.proofs.Operands.{three_fields}
use Rattle.piletexts.proofs.words.read_poll.Goals as goal

pub returns-then-is_some : goal.returns-then-is_some
returns-then-is_some c = search (rules, three_fields)
