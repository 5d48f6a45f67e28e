use Rattle.grammar.proofs.Exactly.{exact}
use Rattle.grammar.proofs.theorems.a_text_writes_what_is_read_of_it.Goals as goal

pub returns : goal.returns
returns c = exact
