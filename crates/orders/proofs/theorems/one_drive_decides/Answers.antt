use Rattle.orders.proofs.Verdicts.{drive_decides}
use Rattle.orders.proofs.theorems.one_drive_decides.Goals as goal

pub returns : goal.returns
returns c = drive_decides
