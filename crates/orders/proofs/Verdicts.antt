-- What a drive after an order decides.
use Rattle.std.proofs.Common.{◌≡◌, ℕ, ◌+◌, ◌<◌, ◌≤◌, List, ◌++◌, length, refl, arith}
use Rattle.std.proofs.lemmas.Bool.{ltb-false}
use Rattle.charts.specs.declared.parts.Event.{Event}
use Rattle.charts.specs.Lists.{count_of, event_of, size}
use Rattle.charts.specs.Sound.{Sound}
use Rattle.media.specs.Carry.{Carry}
use Rattle.orders.specs.Histories.{pos}
use Rattle.orders.specs.May.{May}
use Rattle.orders.specs.Orders.{Order, Ended, Full}
use Rattle.orders.specs.Drives.{Least, Drives}
use Rattle.orders.specs.Deciding.{may_now_at, unfinished}
use Rattle.orders.specs.Driving.{lowest, driven}
use Rattle.orders.specs.Theorems.{EndIsGreatest, DriveDecides, StateIsOne}
use Rattle.orders.proofs.Growing.{greatest_end, ends_level}
use Rattle.orders.proofs.Monotone.{may_stays}
use Rattle.orders.proofs.Decided.{at_width, state, may_unfinished, waits_unfinished, may_or_waits, waits_for_one, waited_unfinished}
use Rattle.orders.proofs.Deciding.{true_may, may_true, waits_level}
use Rattle.orders.proofs.Lengths.{within_length, done_length}
use Rattle.orders.proofs.Lowest.{lowest_least}
use Rattle.orders.proofs.Onwards.{onwards_weaker, onwards_steps}
use Rattle.orders.proofs.Drives.{Tested, driven_drive, drive_driven, drive_ends, drive_ends_anywhere}
use Rattle.orders.proofs.Finishing.{Whole, steps_within, steps_whole, end_whole, drive_tells}

-- a full order is a whole one of the steps that may run
pub full_whole : (M : Carry) (L : List (List Event)) (h : List ℕ) → Full M L h → Whole (May M L) L h
full_whole M L h f = record { order = f.order; done = f.done }

pub whole_full : (M : Carry) (L : List (List Event)) (h : List ℕ) → Whole (May M L) L h → Full M L h
whole_full M L h f = record { order = f.order; done = f.done }

pub end_is_greatest : EndIsGreatest
end_is_greatest M L e oe ee =
    record {
      above = greatest_end (May M L) (may_stays M L) e ee;
      level = λ g og eg. ends_level (May M L) (may_stays M L) e g oe ee og eg;
      waits = λ g og eg i j. (
        waits_level M L g e (ends_level (May M L) (may_stays M L) e g oe ee og eg) i j,
        waits_level M L e g (ends_level (May M L) (may_stays M L) g e og eg oe ee) i j,
      );
    }

pub state_is_one : StateIsOne
state_is_one M L sound h o i =
    record {
      state = state L sound M h i;
      may_unfinished = may_unfinished L sound M h i;
      waits_unfinished = waits_unfinished L sound M h i;
      may_or_waits = may_or_waits L sound M h i;
      waits_for_one = waits_for_one L sound M h i;
      waited_unfinished = λ j. waited_unfinished L sound M h i j o;
    }

module _ (M : Carry) (L : List (List Event)) (sound : Sound L) where
  pub may_tested : Tested (May M L) (may_now_at M L) (length L)
  may_tested =
      record {
        passes = true_may M L sound;
        passed = may_true M L sound;
        below = λ h i m. at_width L sound i (pos h i) (event_of L i (pos h i)) (record { within = may_unfinished L sound M h i m; is = refl });
      }

  -- what a drive makes after any history is computed
  pub drives : (h : List ℕ) (n : ℕ) → Drives M L h n (driven (may_now_at M L) (length L) n (pos h))
  drives h n =
      let d = driven_drive (May M L) (may_now_at M L) (length L) may_tested n h in record { lowest = d.lowest; most = d.most; stops = d.stops }

  pub drives_only : (h : List ℕ) (n : ℕ) (w : List ℕ) → Drives M L h n w → w ≡ driven (may_now_at M L) (length L) n (pos h)
  drives_only h n w d =
      drive_driven (May M L) (may_now_at M L) (length L) may_tested n h w (record { lowest = d.lowest; most = d.most; stops = d.stops })

  -- an order stays within the lists
  pub order_within : (h : List ℕ) → Order M L h → (i : ℕ) → pos h i ≤ count_of L i
  order_within = steps_within (May M L) L (may_stays M L) (may_unfinished L sound M)

  pub order_length : (h : List ℕ) → Order M L h → length h ≤ size L
  order_length h o = within_length L h (order_within h o)

  pub full_length : (h : List ℕ) → Full M L h → length h ≡ size L
  full_length h f = done_length L h f.done

  -- an order is full where no instance has an event left
  pub order_full : (h : List ℕ) → Order M L h → ((i : ℕ) → i < length L → count_of L i ≤ pos h i) → Full M L h
  order_full h o done = whole_full M L h (steps_whole (May M L) L (may_stays M L) (may_unfinished L sound M) h o done)

  -- so it is where the search for an unfinished instance finds none
  pub none_unfinished : (h : List ℕ) → Order M L h → length L ≤ lowest (unfinished L (pos h)) (length L) → Full M L h
  none_unfinished h o none =
      order_full h o (λ i l. ltb-false (pos h i) (count_of L i) (lowest_least (unfinished L (pos h)) (length L) i (omega arith)))

  -- where a full order exists, every order that has ended is full
  pub ended_full : (h : List ℕ) → Order M L h → Ended M L h → (f : List ℕ) → Full M L f → Full M L h
  ended_full h o e f full = whole_full M L h (end_whole (May M L) L (may_stays M L) (may_unfinished L sound M) h o e f (full_whole M L f full))

  -- an order with the steps of a drive is an order
  pub driven_order : (h : List ℕ) → Order M L h → (n : ℕ) → Order M L (h ++ driven (may_now_at M L) (length L) n (pos h))
  driven_order h o n =
      let w = driven (may_now_at M L) (length L) n (pos h) in
      onwards_steps (May M L) h w o (onwards_weaker (Least (May M L)) (May M L) (λ u j a. a.can) h w (drives h n).lowest)

  -- and with enough of them it has ended
  pub driven_ended : (h : List ℕ) → Order M L h → (n : ℕ) → size L ≤ length h + n → Ended M L (h ++ driven (may_now_at M L) (length L) n (pos h))
  driven_ended h o = drive_ends (May M L) (may_now_at M L) (length L) may_tested L (may_unfinished L sound M) h (order_within h o)

  -- a drive of as many steps as there are events ends after any history
  pub driven_ended_anywhere : (h : List ℕ) (n : ℕ) → size L ≤ n → Ended M L (h ++ driven (may_now_at M L) (length L) n (pos h))
  driven_ended_anywhere = drive_ends_anywhere (May M L) (may_now_at M L) (length L) may_tested L (may_unfinished L sound M)

  -- where a full order exists the drive reaches one
  pub driven_full : (h : List ℕ) → Order M L h → (n : ℕ) → size L ≤ length h + n → (f : List ℕ) → Full M L f →
      Full M L (h ++ driven (may_now_at M L) (length L) n (pos h))
  driven_full h o n enough f full = ended_full (h ++ driven (may_now_at M L) (length L) n (pos h)) (driven_order h o n) (driven_ended h o n enough) f full

  -- and where it leaves an event, none exists
  pub driven_stuck : (h : List ℕ) → Order M L h → (n : ℕ) → size L ≤ length h + n →
      (i : ℕ) → pos (h ++ driven (may_now_at M L) (length L) n (pos h)) i < count_of L i → (f : List ℕ) → Full M L f → ⊥
  driven_stuck h o n enough i left f full = let d = (driven_full h o n enough f full).done i in omega arith

pub drive_decides : DriveDecides
drive_decides M L sound h o =
    let w = driven (may_now_at M L) (length L) (size L) (pos h) in
    let d = drive_tells (May M L) L (may_stays M L) (may_unfinished L sound M) (may_now_at M L) (length L) (may_tested M L sound) h o in (
      w,
      record {
        lowest = d.lowest;
        ended = d.ended;
        only = d.only;
        reached = λ f full. whole_full M L (h ++ w) (d.reached f (full_whole M L f full));
      },
    )
