use Rattle.logged.proofs.Led.{Led}
use Rattle.logged.proofs.leading.leading.Given as goal

abbrev pub invariant-loop : goal.invariant-loop
invariant-loop l = Led l.most l.bytes l.counter l.instances.items l.rest
