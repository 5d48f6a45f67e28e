-- What is computed of a chart comes out of it.
use Rattle.std.proofs.Common.{◌≡◌, ℕ, ◌<◌, List, [], length, subst}
use Rattle.charts.specs.declared.parts.Event.{Event}
use Rattle.charts.specs.Lists.{size}
use Rattle.charts.specs.Sound.{Sound}
use Rattle.media.specs.Carry.{Carry}
use Rattle.orders.specs.Histories.{pos}
use Rattle.orders.specs.Orders.{Full}
use Rattle.orders.specs.Drives.{Lowest}
use Rattle.orders.specs.Deciding.{may_now_at}
use Rattle.orders.specs.Driving.{driven}
use Rattle.orders.specs.Walking.{ring_at}
use Rattle.orders.proofs.Verdicts.{drives}
use Rattle.worked.specs.SmallCharts.{Stuck}
use Rattle.worked.proofs.Computed.{drive_full, drive_stuck}

module _ (M : Carry) (L : List (List Event)) (sound : Sound L) (w : List ℕ) (drive : driven (may_now_at M L) (length L) (size L) (pos []) ≡ w) where
  steps_lowest : Lowest M L [] w
  steps_lowest = subst (Lowest M L []) drive (drives M L sound [] (size L)).lowest

  -- a drive that makes every event
  pub drive_runs : length w ≡ size L → Lowest M L [] w × Full M L w
  drive_runs all = (steps_lowest, drive_full M L sound w drive all)

  -- a drive that leaves some
  pub drive_stops : (r : List ℕ) → length w < size L → ring_at L (pos w) ≡ r → Lowest M L [] w × Stuck M L w r
  drive_stops r short ring = (steps_lowest, drive_stuck M L sound w drive r short ring)
