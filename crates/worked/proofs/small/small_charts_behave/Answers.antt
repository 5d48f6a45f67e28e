use Rattle.worked.proofs.Rows.{small_charts}
use Rattle.worked.proofs.small.small_charts_behave.Goals as goal

pub returns : goal.returns
returns c = small_charts
