use Rattle.process.proofs.theorems.worked_examples_of_annex_b.Goals as goal
use Rattle.process.proofs.Worked.{examples}

pub returns : goal.returns
returns c = examples
