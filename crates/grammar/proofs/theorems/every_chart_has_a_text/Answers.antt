use Rattle.grammar.proofs.Plainly.{plain_writes}
use Rattle.grammar.proofs.theorems.every_chart_has_a_text.Goals as goal

pub returns : goal.returns
returns c = plain_writes
