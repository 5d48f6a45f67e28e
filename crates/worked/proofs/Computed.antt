-- What is computed of a chart shows it sound, full or stuck, and where its events come at the latest.
use Rattle.std.proofs.Common.{◌≡◌, ℕ, ◌<◌, List, [], map, length, None, subst, arith}
use Rattle.std.specs.List.{flat_map}
use Rattle.charts.specs.declared.parts.Event.{Event}
use Rattle.charts.specs.Lists.{count_of, size}
use Rattle.charts.specs.Sound.{Sound}
use Rattle.checks.specs.Checked.{checked}
use Rattle.checks.specs.Cut.{cut}
use Rattle.checks.proofs.Exact.{checked_sound}
use Rattle.media.specs.Carry.{Carry}
use Rattle.orders.specs.Histories.{pos}
use Rattle.orders.specs.May.{May}
use Rattle.orders.specs.Orders.{Order, Ended, Full}
use Rattle.orders.specs.Rings.{Ring}
use Rattle.orders.specs.Latest.{Latest}
use Rattle.orders.specs.Deciding.{may_now_at}
use Rattle.orders.specs.Driving.{driven, latest_place}
use Rattle.orders.specs.Walking.{ring_at}
use Rattle.orders.proofs.Growing.{steps_none}
use Rattle.orders.proofs.Lengths.{length_done}
use Rattle.orders.proofs.Verdicts.{order_within, full_length, ended_full, driven_order, driven_ended}
use Rattle.orders.proofs.LatestPlace.{latest_place_lem}
use Rattle.orders.proofs.Rings.{lowest_left, ring_at_end}
use Rattle.worked.specs.SmallCharts.{Stuck}

-- lists whose events pass the checks of a table are sound
pub lists_sound : (L : List (List Event)) → checked (map length L) (flat_map (λ es. es) L) ≡ None → cut (map length L) (flat_map (λ es. es) L) ≡ L → Sound L
lists_sound L none same = subst Sound same (checked_sound (map length L) (flat_map (λ es. es) L) none).sound

module _ (M : Carry) (L : List (List Event)) (sound : Sound L) (e : List ℕ) (drive : driven (may_now_at M L) (length L) (size L) (pos []) ≡ e) where
  drive_order : Order M L e
  drive_order = subst (Order M L) drive (driven_order M L sound [] (steps_none (May M L)) (size L))

  drive_ended : Ended M L e
  drive_ended = subst (Ended M L) drive (driven_ended M L sound [] (steps_none (May M L)) (size L) (omega arith))

  -- a drive that makes every event is a full order
  pub drive_full : length e ≡ size L → Full M L e
  drive_full all = record { order = drive_order; done = length_done L e (order_within M L sound e drive_order) (omega arith) }

  -- a drive that leaves some is stuck
  pub drive_stuck : (r : List ℕ) → length e < size L → ring_at L (pos e) ≡ r → Stuck M L e r
  drive_stuck r short ring =
      record {
        order = drive_order;
        ended = drive_ended;
        ring = subst (Ring M L e) ring (ring_at_end M L sound e drive_order drive_ended (lowest_left M L sound e drive_order drive_ended not_full));
        never = λ f full. not_full (ended_full M L sound e drive_order drive_ended f full);
      }
    where
      not_full : Full M L e → ⊥
      not_full full = let l = full_length M L sound e full in omega arith

-- where a full order exists, the latest place of an event is the one that is computed
pub place_latest : (M : Carry) (L : List (List Event)) → Sound L → (f : List ℕ) → Full M L f → (i k n : ℕ) → k < count_of L i →
    latest_place M L [] i k ≡ n → Latest M L [] i k n
place_latest M L sound f full i k n within place =
    subst (Latest M L [] i k) place (latest_place_lem M L sound [] (steps_none (May M L)) i k (omega arith) within f full)
