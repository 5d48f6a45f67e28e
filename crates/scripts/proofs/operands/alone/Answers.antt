use Rattle.scripts.proofs.Fields.{no_field}
use Rattle.scripts.proofs.operands.alone.Goals as goal

pub returns-in-Some : goal.returns-in-Some
returns-in-Some g c = no_field c.args.value 32 c.args.operands _ c.in-Some.is
