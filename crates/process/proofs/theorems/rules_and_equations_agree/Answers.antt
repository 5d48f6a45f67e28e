use Rattle.process.proofs.theorems.rules_and_equations_agree.Goals as goal
use Rattle.process.proofs.Agreeing.{agreement}

pub returns : goal.returns
returns c = agreement
