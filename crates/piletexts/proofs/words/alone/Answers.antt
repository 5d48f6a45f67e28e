use Rattle.piletexts.proofs.Operands.{no_field}
use Rattle.piletexts.proofs.words.alone.Goals as goal

pub returns-in-Some : goal.returns-in-Some
returns-in-Some c = no_field c.args.command 32 c.args.operands _ c.in-Some.is
