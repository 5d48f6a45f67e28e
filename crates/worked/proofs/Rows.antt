-- The small charts, row by row.
use Rattle.std.proofs.Common.{◌≡◌, ℕ, ◌<◌, [], ◌∷◌, refl, arith}
use Rattle.charts.specs.Lists.{count_of}
use Rattle.charts.specs.Sound.{Sound}
use Rattle.media.specs.Media.{free, line, narrow}
use Rattle.orders.specs.Orders.{Full}
use Rattle.orders.specs.Latest.{Latest}
use Rattle.orders.specs.Driving.{latest_place}
use Rattle.worked.specs.Charts.{late, cross, over, hop, behind}
use Rattle.worked.specs.SmallCharts.{SmallCharts}
use Rattle.worked.proofs.Computed.{lists_sound, drive_full, drive_stuck, place_latest}

sound_late : Sound late
sound_late = lists_sound late refl refl

sound_cross : Sound cross
sound_cross = lists_sound cross refl refl

sound_over : Sound over
sound_over = lists_sound over refl refl

sound_hop : Sound hop
sound_hop = lists_sound hop refl refl

sound_behind : Sound behind
sound_behind = lists_sound behind refl refl

full_late : Full free late (0 ∷ 1 ∷ 2 ∷ 1 ∷ 2 ∷ [])
full_late = drive_full free late sound_late (0 ∷ 1 ∷ 2 ∷ 1 ∷ 2 ∷ []) refl refl

latest_late : (i k n : ℕ) → k < count_of late i → latest_place free late [] i k ≡ n → Latest free late [] i k n
latest_late = place_latest free late sound_late (0 ∷ 1 ∷ 2 ∷ 1 ∷ 2 ∷ []) full_late

pub small_charts : SmallCharts
small_charts =
    record {
      late_sound = sound_late;
      cross_sound = sound_cross;
      over_sound = sound_over;
      hop_sound = sound_hop;
      behind_sound = sound_behind;
      late_full = full_late;
      late_text = latest_late 0 0 3 (omega arith) refl;
      late_text_taken = latest_late 1 0 4 (omega arith) refl;
      late_ring = latest_late 2 0 3 (omega arith) refl;
      late_sounds = latest_late 2 1 5 (omega arith) refl;
      cross_stuck = drive_stuck free cross sound_cross [] refl (0 ∷ 1 ∷ []) (omega arith) refl;
      over_full = drive_full free over sound_over (0 ∷ 0 ∷ 1 ∷ 1 ∷ []) refl refl;
      over_in_line = drive_stuck line over sound_over (0 ∷ 0 ∷ []) refl (1 ∷ []) (omega arith) refl;
      over_room_for_one = drive_stuck (narrow 1 free) over sound_over (0 ∷ []) refl (0 ∷ 1 ∷ []) (omega arith) refl;
      over_room_for_two = drive_full (narrow 2 free) over sound_over (0 ∷ 0 ∷ 1 ∷ 1 ∷ []) refl refl;
      hop_no_room = drive_stuck (narrow 0 free) hop sound_hop [] refl (0 ∷ 1 ∷ []) (omega arith) refl;
      behind_stuck = drive_stuck free behind sound_behind [] refl (1 ∷ 2 ∷ []) (omega arith) refl;
    }
