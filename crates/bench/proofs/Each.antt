-- What comes out of each row.
use Rattle.std.proofs.Common.{◌≡◌, [], ◌∷◌, None, refl, sym, subst, arith}
use Rattle.charts.specs.Sound.{Sound}
use Rattle.joining.specs.After.{after_lists}
use Rattle.joining.specs.Beside.{beside_lists}
use Rattle.media.specs.Media.{free, line, narrow}
use Rattle.orders.specs.Orders.{Full}
use Rattle.orders.specs.Drives.{Lowest, Drives}
use Rattle.orders.specs.Latest.{Latest}
use Rattle.orders.proofs.Verdicts.{drives}
use Rattle.polling.specs.Limits.{lists_of as poll_lists}
use Rattle.runs.specs.declared.parts.Ending.TheVariants.{Finished}
use Rattle.worked.specs.Charts.{cross, over, hop}
use Rattle.runs.specs.Drives.{EndsBy}
use Rattle.worked.specs.SmallCharts.{Stuck}
use Rattle.worked.proofs.Computed.{lists_sound, drive_full, place_latest}
use Rattle.worked.proofs.Rows.{small_charts}
use Rattle.bench.specs.declared.outcomes.Outcome.{Outcome}
use Rattle.bench.specs.declared.rows.Row.{Row}
use Rattle.bench.specs.Outcomes.{Comes}
use Rattle.bench.specs.Rows.{to_itself, lists_of, medium_of, call_of, ComesOut}
use Rattle.bench.proofs.Computed.{drive_runs, drive_stops}
use Rattle.bench.proofs.Only.{one_outcome}
use Rattle.bench.proofs.Told.{Asked, outcome_told}

-- what comes out of the row r, being s
pub comes_out : (r s : Row) (o : Outcome) → r ≡ s → Sound (lists_of s) → Asked (lists_of s) (call_of s) → Comes (medium_of s) (lists_of s) (call_of s) o → ComesOut r o
comes_out r s o is sound asked comes =
    subst (λ (x : Row). ComesOut x o) (sym is) (record {
      sound = sound;
      comes = comes;
      only = λ p other. one_outcome (medium_of s) (lists_of s) sound (call_of s) p o other comes;
      one_answer = outcome_told (medium_of s) (lists_of s) sound (call_of s) o comes asked;
    })

pub empty_sound : Sound []
empty_sound = lists_sound [] refl refl

pub empty_runs : Lowest free [] [] [] × Full free [] []
empty_runs = drive_runs free [] empty_sound [] refl refl

pub cross_stuck : Lowest free cross [] [] × Stuck free cross [] (0 ∷ 1 ∷ [])
cross_stuck = drive_stops free cross small_charts.cross_sound [] refl (0 ∷ 1 ∷ []) (omega arith) refl

pub over_runs : Lowest free over [] (0 ∷ 0 ∷ 1 ∷ 1 ∷ []) × Full free over (0 ∷ 0 ∷ 1 ∷ 1 ∷ [])
over_runs = drive_runs free over small_charts.over_sound (0 ∷ 0 ∷ 1 ∷ 1 ∷ []) refl refl

pub over_in_line : Lowest line over [] (0 ∷ 0 ∷ []) × Stuck line over (0 ∷ 0 ∷ []) (1 ∷ [])
over_in_line = drive_stops line over small_charts.over_sound (0 ∷ 0 ∷ []) refl (1 ∷ []) (omega arith) refl

pub over_room_for_one : Lowest (narrow 1 free) over [] (0 ∷ []) × Stuck (narrow 1 free) over (0 ∷ []) (0 ∷ 1 ∷ [])
over_room_for_one = drive_stops (narrow 1 free) over small_charts.over_sound (0 ∷ []) refl (0 ∷ 1 ∷ []) (omega arith) refl

pub over_room_for_two : Lowest (narrow 2 free) over [] (0 ∷ 0 ∷ 1 ∷ 1 ∷ []) × Full (narrow 2 free) over (0 ∷ 0 ∷ 1 ∷ 1 ∷ [])
over_room_for_two = drive_runs (narrow 2 free) over small_charts.over_sound (0 ∷ 0 ∷ 1 ∷ 1 ∷ []) refl refl

pub hop_no_room : Lowest (narrow 0 free) hop [] [] × Stuck (narrow 0 free) hop [] (0 ∷ 1 ∷ [])
hop_no_room = drive_stops (narrow 0 free) hop small_charts.hop_sound [] refl (0 ∷ 1 ∷ []) (omega arith) refl

pub poll_sound : Sound (poll_lists 1 1)
poll_sound = lists_sound (poll_lists 1 1) refl refl

pub poll_driven : Drives free (poll_lists 1 1) [] 4 (0 ∷ 1 ∷ 1 ∷ 0 ∷ []) × EndsBy (poll_lists 1 1) (0 ∷ 1 ∷ 1 ∷ 0 ∷ []) 4 (0 ∷ 1 ∷ 1 ∷ 0 ∷ []) Finished
poll_driven = (
  drives free (poll_lists 1 1) poll_sound [] 4,
  λ i. let d = (drive_full free (poll_lists 1 1) poll_sound (0 ∷ 1 ∷ 1 ∷ 0 ∷ []) refl refl).done i in omega arith,
)

pub after_sound : Sound (after_lists None None hop hop)
after_sound = lists_sound (after_lists None None hop hop) refl refl

pub after_latest : Latest free (after_lists None None hop hop) [] 0 1 3
after_latest =
    place_latest free (after_lists None None hop hop) after_sound (0 ∷ 0 ∷ 1 ∷ 1 ∷ [])
    (drive_full free (after_lists None None hop hop) after_sound (0 ∷ 0 ∷ 1 ∷ 1 ∷ []) refl refl) 0 1 3 (omega arith) refl

pub beside_sound : Sound (beside_lists None None hop hop)
beside_sound = lists_sound (beside_lists None None hop hop) refl refl

pub beside_latest : Latest free (beside_lists None None hop hop) [] 0 0 3
beside_latest =
    place_latest free (beside_lists None None hop hop) beside_sound (0 ∷ 1 ∷ 2 ∷ 3 ∷ [])
    (drive_full free (beside_lists None None hop hop) beside_sound (0 ∷ 1 ∷ 2 ∷ 3 ∷ []) refl refl) 0 0 3 (omega arith) refl

pub to_itself_sound : Sound to_itself
to_itself_sound = lists_sound to_itself refl refl

pub to_itself_runs : Lowest free to_itself [] (0 ∷ 0 ∷ []) × Full free to_itself (0 ∷ 0 ∷ [])
to_itself_runs = drive_runs free to_itself to_itself_sound (0 ∷ 0 ∷ []) refl refl
