-- What the definitions say of the small charts: full orders, latest places, ends with their rings.
use Rattle.std.specs.Prelude.{ℕ, List, [], ◌∷◌}
use Rattle.charts.specs.declared.parts.Event.{Event}
use Rattle.charts.specs.Sound.{Sound}
use Rattle.media.specs.Carry.{Carry}
use Rattle.media.specs.Media.{free, line, narrow}
use Rattle.orders.specs.Orders.{Order, Ended, Full}
use Rattle.orders.specs.Rings.{Ring}
use Rattle.orders.specs.Latest.{Latest}
use Rattle.worked.specs.Charts.{late, cross, over, hop, behind}

-- the order e has ended with the ring r, and no order is full
pub record Stuck (M : Carry) (L : List (List Event)) (e r : List ℕ) : Type 0 where
  pub order : Order M L e
  pub ended : Ended M L e
  pub ring : Ring M L e r
  pub never : (f : List ℕ) → Full M L f → ⊥

-- what comes out for each
pub record SmallCharts : Type 0 where
  -- the charts are sound
  pub late_sound : Sound late
  pub cross_sound : Sound cross
  pub over_sound : Sound over
  pub hop_sound : Sound hop
  pub behind_sound : Sound behind
  -- late has a full order; the latest places of the log's text, its input, the siren's ring and its sound
  pub late_full : Full free late (0 ∷ 1 ∷ 2 ∷ 1 ∷ 2 ∷ [])
  pub late_text : Latest free late [] 0 0 3
  pub late_text_taken : Latest free late [] 1 0 4
  pub late_ring : Latest free late [] 2 0 3
  pub late_sounds : Latest free late [] 2 1 5
  -- cross is stuck at once
  pub cross_stuck : Stuck free cross [] (0 ∷ 1 ∷ [])
  -- over has a full order where the bus takes messages in any order and has room for both
  pub over_full : Full free over (0 ∷ 0 ∷ 1 ∷ 1 ∷ [])
  pub over_in_line : Stuck line over (0 ∷ 0 ∷ []) (1 ∷ [])
  pub over_room_for_one : Stuck (narrow 1 free) over (0 ∷ []) (0 ∷ 1 ∷ [])
  pub over_room_for_two : Full (narrow 2 free) over (0 ∷ 0 ∷ 1 ∷ 1 ∷ [])
  -- hop is stuck where the bus has no room
  pub hop_no_room : Stuck (narrow 0 free) hop [] (0 ∷ 1 ∷ [])
  -- behind is stuck at once: the log waits, and is not of the ring
  pub behind_stuck : Stuck free behind [] (1 ∷ 2 ∷ [])
