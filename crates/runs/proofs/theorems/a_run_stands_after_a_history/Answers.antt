use Rattle.runs.proofs.Standing.{some_history}
use Rattle.runs.proofs.theorems.a_run_stands_after_a_history.Goals as goal

pub returns : goal.returns
returns g c = some_history c.args.run.now.board.rows.table
