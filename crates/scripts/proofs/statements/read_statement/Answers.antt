use Rattle.std.proofs.Common.{rules}
use Rattle.scripts.proofs.Words.{read_alone}
use Rattle.scripts.proofs.statements.read_statement.Goals as goal

pub returns-in-Some-clause-alone : goal.returns-in-Some-clause-alone
returns-in-Some-clause-alone c = read_alone c.args.line.now _ (search rules)

pub returns-in-Some-read_medium-clause-alone : goal.returns-in-Some-read_medium-clause-alone
returns-in-Some-read_medium-clause-alone c = read_alone c.args.line.now _ (search rules)
