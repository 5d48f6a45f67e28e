-- The latest place of an event is found by the drive that never makes it.
use Rattle.std.proofs.Common.{◌≡◌, ℕ, suc, ◌+◌, ◌<◌, ◌≤◌, true, not, ◌&&◌, eqb, List, ◌++◌, length, subst, inl, inr, arith}
use Rattle.std.proofs.lemmas.List.{length-append}
use Rattle.std.proofs.lemmas.Bool.{cases_Bool, eq-eqb, eqb-true, and_parts, and_from, not-true, not_from_false, both_ways}
use Rattle.charts.specs.declared.parts.Event.{Event}
use Rattle.charts.specs.Lists.{count_of, size}
use Rattle.charts.specs.Sound.{Sound}
use Rattle.media.specs.Carry.{Carry}
use Rattle.orders.specs.Histories.{pos}
use Rattle.orders.specs.May.{May}
use Rattle.orders.specs.Orders.{Order, Full}
use Rattle.orders.specs.Drives.{Least}
use Rattle.orders.specs.Latest.{Other, Latest}
use Rattle.orders.specs.Deciding.{may_now_at}
use Rattle.orders.specs.Driving.{driven, other_now, latest_place}
use Rattle.orders.specs.Theorems.{Blocked, BlockedDriveFindsLatest}
use Rattle.orders.proofs.Monotone.{may_stays}
use Rattle.orders.proofs.Decided.{may_unfinished}
use Rattle.orders.proofs.Onwards.{onwards_weaker}
use Rattle.orders.proofs.Drives.{Tested, driven_drive, drive_ends}
use Rattle.orders.proofs.Finishing.{blocked_finds}
use Rattle.orders.proofs.Verdicts.{full_whole, whole_full, may_tested, order_within}

-- there is one latest place
pub latest_one : (M : Carry) (L : List (List Event)) (h : List ℕ) (i k n m : ℕ) → Latest M L h i k n → Latest M L h i k m → n ≡ m
latest_one M L h i k n m a b =
    let c = b.never_later a.more n a.full a.reached in
    let d = a.never_later b.more m b.full b.reached in
    omega arith

module _ (M : Carry) (L : List (List Event)) (sound : Sound L) where
  pub other_tested : (i k : ℕ) → Tested (Other (May M L) i k) (other_now M L i k) (length L)
  other_tested i k =
      let t = may_tested M L sound in
      record {
        passes = λ h j o. and_from (may_now_at M L (pos h) j) (not (eqb j i && eqb (pos h i) k)) (t.passes h j o.can) (open_to h j o.other);
        passed = λ h j y.
            let p = and_parts (may_now_at M L (pos h) j) (not (eqb j i && eqb (pos h i) k)) y in
            record {
              can = t.passed h j p.0;
              other = λ is at.
                  both_ways (eqb j i && eqb (pos h i) k) (not-true (eqb j i && eqb (pos h i) k) p.1)
                  (and_from (eqb j i) (eqb (pos h i) k) (eq-eqb j i is) (eq-eqb (pos h i) k at));
            };
        below = λ h j o. t.below h j o.can;
      }
    where
      open_to : (h : List ℕ) (j : ℕ) → (j ≡ i → pos h i ≡ k → ⊥) → not (eqb j i && eqb (pos h i) k) ≡ true
      open_to h j other =
          let b = eqb j i && eqb (pos h i) k in
          elim (cases_Bool b) [
            | inl y ↦ absurd (let p = and_parts (eqb j i) (eqb (pos h i) k) y in other (eqb-true j i p.0) (eqb-true (pos h i) k p.1))
            | inr f ↦ not_from_false b f
          ]

  -- a drive with enough steps that never makes the event ends
  pub driven_blocked : (h : List ℕ) → Order M L h → (i k n : ℕ) → size L ≤ length h + n → Blocked M L h i k (driven (other_now M L i k) (length L) n (pos h))
  driven_blocked h o i k n enough =
      let P = Other (May M L) i k in
      let w = driven (other_now M L i k) (length L) n (pos h) in
      let t = other_tested i k in
      record {
        steps = onwards_weaker (Least P) P (λ u j a. a.can) h w (driven_drive P (other_now M L i k) (length L) t n h).lowest;
        ended = drive_ends P (other_now M L i k) (length L) t L (λ u j p. may_unfinished L sound M u j p.can) h (order_within M L sound h o) n enough;
      }

  module _ (h : List ℕ) (o : Order M L h) (i k : ℕ) (low : pos h i ≤ k) (high : k < count_of L i) (f : List ℕ) (full : Full M L f) where
    pub blocked_latest : (w : List ℕ) → Blocked M L h i k w → Latest M L h i k (suc (length (h ++ w)))
    blocked_latest w b =
        let p =
        blocked_finds (May M L) L (may_stays M L) (may_unfinished L sound M) h o i k low high f (full_whole M L f full) w b.steps b.ended in
        record {
          never_later = λ v m f'. p.never_later v m (full_whole M L (h ++ v) f');
          more = p.more;
          full = whole_full M L (h ++ p.more) p.whole;
          reached = p.reached;
        }

    pub driven_latest : (n : ℕ) → size L ≤ length h + n → Latest M L h i k (suc (length h + length (driven (other_now M L i k) (length L) n (pos h))))
    driven_latest n enough =
        let w = driven (other_now M L i k) (length L) n (pos h) in
        subst (λ (x : ℕ). Latest M L h i k (suc x)) (length-append h w) (blocked_latest w (driven_blocked h o i k n enough))

    pub latest_place_lem : Latest M L h i k (latest_place M L h i k)
    latest_place_lem =
        let w = driven (other_now M L i k) (length L) (size L) (pos h) in
        subst (Latest M L h i k) (let z : suc (length h + length w) ≡ length h + length w + 1 = omega arith in z) (driven_latest (size L) (omega arith))

pub blocked_drive_finds_latest : BlockedDriveFindsLatest
blocked_drive_finds_latest M L sound h o i k low high f full =
    ((driven (other_now M L i k) (length L) (size L) (pos h), driven_blocked M L sound h o i k (size L) (omega arith)), blocked_latest M L sound h o i k low high f full)
