use Rattle.orders.proofs.LatestPlace.{blocked_drive_finds_latest}
use Rattle.orders.proofs.theorems.a_blocked_drive_finds_the_latest_place.Goals as goal

pub returns : goal.returns
returns c = blocked_drive_finds_latest
