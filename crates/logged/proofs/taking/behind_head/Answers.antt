use Rattle.std.proofs.Common.{length}
use Rattle.records.specs.declared.parts.Record.TheVariants.{Head as head}
use Rattle.records.specs.Records.{written}
use Rattle.logged.proofs.taking.behind_head.Goals as goal

pub returns-in_default : goal.returns-in_default
returns-in_default c x b = c.in_default.not-Ok (head x, length (written (head x))) (c.read.ensures.again (head x) b.0 b.1)
