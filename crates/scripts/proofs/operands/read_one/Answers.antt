use Rattle.std.proofs.Common.{rules}
use Rattle.scripts.proofs.Fields.{two_fields}
use Rattle.scripts.proofs.operands.read_one.Goals as goal

pub returns-then-is_some-clause-value : goal.returns-then-is_some-clause-value
returns-then-is_some-clause-value c = search (rules, two_fields)
