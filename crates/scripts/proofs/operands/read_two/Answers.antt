use Rattle.std.proofs.Common.{rules}
use Rattle.scripts.proofs.Fields.{three_fields}
use Rattle.scripts.proofs.operands.read_two.Goals as goal

pub returns-then-is_some : goal.returns-then-is_some
returns-then-is_some c = search (rules, three_fields)
