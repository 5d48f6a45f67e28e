use Rattle.std.proofs.Common.{length}
use Rattle.records.specs.declared.parts.Record.TheVariants.{Entry as entry}
use Rattle.records.specs.Records.{written}
use Rattle.logged.proofs.leading.first_entry.Goals as goal

pub returns-in_default : goal.returns-in_default
returns-in_default c x b = c.in_default.not-Ok (entry x, length (written (entry x))) (c.read.ensures.again (entry x) b.0 b.1)
