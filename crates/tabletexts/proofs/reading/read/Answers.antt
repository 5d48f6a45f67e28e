use Rattle.std.proofs.Common.{Ok, rules}
use Rattle.tabletexts.proofs.Backs.{read_back}
use Rattle.tabletexts.proofs.reading.read.Goals as goal

pub returns-in_err-lengths : goal.returns-in_err-lengths
returns-in_err-lengths c = read_back c.args.text.now c.from_residual.result (search rules)

pub returns-in_err-events-in-Some : goal.returns-in_err-events-in-Some
returns-in_err-events-in-Some c = read_back c.args.text.now c.from_residual-in_err-events-in-Some.result (search rules)

pub returns : goal.returns
returns c = read_back c.args.text.now (Ok (record { lengths = c.in_ok-lengths.lengths; events = c.match-rest.events })) (search rules)
