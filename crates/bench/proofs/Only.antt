-- Of a call on a new run only one outcome comes.
use Rattle.std.proofs.Common.{◌≡◌, ℕ, List, [], refl, subst, sym, ◌∙◌, arith}
use Rattle.charts.specs.declared.parts.Event.{Event}
use Rattle.charts.specs.Sound.{Sound}
use Rattle.media.specs.Carry.{Carry}
use Rattle.orders.specs.May.{May}
use Rattle.orders.specs.Orders.{Ended, Full}
use Rattle.orders.specs.Drives.{Lowest, Drives}
use Rattle.orders.specs.Rings.{Ring}
use Rattle.orders.proofs.Decided.{may_unfinished}
use Rattle.orders.proofs.Drives.{ended_one}
use Rattle.orders.proofs.LatestPlace.{latest_one}
use Rattle.orders.proofs.Verdicts.{drives_only}
use Rattle.orders.proofs.Rings.{one_ring}
use Rattle.runs.specs.declared.parts.Ending.{Ending}
use Rattle.runs.specs.declared.parts.Ending.TheVariants.{Finished, Count, Stuck as StuckThere}
use Rattle.runs.specs.Drives.{EndsBy}
use Rattle.runs.specs.declared.calls.Call.{Call}
use Rattle.runs.specs.declared.calls.Call.TheVariants.{Step, Drive, Restart, Judge, Latest}
use Rattle.bench.specs.declared.outcomes.Outcome.{Outcome}
use Rattle.bench.specs.declared.outcomes.Outcome.TheVariants.{Runs, Stuck, Place, Drove}
use Rattle.bench.specs.Outcomes.{Comes, Same}

-- a drive ends in one way
one_ending : (L : List (List Event)) (g w : List ℕ) (n : ℕ) (a b : Ending) → EndsBy L g n w a → EndsBy L g n w b → a ≡ b
one_ending L g w n Finished Finished x y = refl
one_ending L g w n Finished Count x y = absurd (y.0 x)
one_ending L g w n Finished StuckThere x y = absurd (y.0 x)
one_ending L g w n Count Finished x y = absurd (x.0 y)
one_ending L g w n Count Count x y = refl
one_ending L g w n Count StuckThere x y = absurd (omega (arith, x.1, y.1))
one_ending L g w n StuckThere Finished x y = absurd (x.0 y)
one_ending L g w n StuckThere Count x y = absurd (omega (arith, x.1, y.1))
one_ending L g w n StuckThere StuckThere x y = refl

module _ (M : Carry) (L : List (List Event)) (sound : Sound L) where
  full_ended : (w : List ℕ) → Full M L w → Ended M L w
  full_ended w full i may = let l = may_unfinished L sound M w i may in let d = full.done i in omega arith

  -- full orders, made lowest first
  pub one_order : (v w : List ℕ) → Lowest M L [] v → Full M L v → Lowest M L [] w → Full M L w → v ≡ w
  one_order v w a f b g = ended_one (May M L) [] v w a b (full_ended v f) (full_ended w g)

  -- ends that are made lowest first, and the rings there
  pub one_end : (d e q r : List ℕ) → Lowest M L [] d → Ended M L d → Ring M L d q → Lowest M L [] e → Ended M L e → Ring M L e r → (d ≡ e) × (q ≡ r)
  one_end d e q r a x y b z u =
      let same = ended_one (May M L) [] d e a b x z in
      (same, one_ring M L sound e q r (subst (λ (h : List ℕ). Ring M L h q) same y) u)

  -- and drives
  pub one_drive : (n : ℕ) (v w : List ℕ) (s t : Ending) → Drives M L [] n v → EndsBy L v n v s → Drives M L [] n w → EndsBy L w n w t → (v ≡ w) × (s ≡ t)
  one_drive n v w s t a x b y =
      let same : v ≡ w = drives_only M L sound [] n v a ∙ sym (drives_only M L sound [] n w b) in
      (same, one_ending L w w n s t (subst (λ (u : List ℕ). EndsBy L u n u s) same x) y)

  -- whatever is called
  pub one_outcome : (call : Call) (o p : Outcome) → Comes M L call o → Comes M L call p → Same o p
  one_outcome Judge (Runs v) (Runs w) a b = one_order v.now w.now a.0 a.1 b.0 b.1
  one_outcome Judge (Runs v) (Stuck e r) a b = absurd (b.1.never v.now a.1)
  one_outcome Judge (Stuck e r) (Runs v) a b = absurd (a.1.never v.now b.1)
  one_outcome Judge (Stuck d q) (Stuck e r) a b = one_end d.now e.now q.now r.now a.0 a.1.ended a.1.ring b.0 b.1.ended b.1.ring
  one_outcome (Latest i k) (Place n) (Place m) a b = latest_one M L [] i k n m a b
  one_outcome (Drive n) (Drove v s) (Drove w t) a b = one_drive n v.now w.now s t a.0 a.1 b.0 b.1
  one_outcome (Step _) o p a b = elim a [ ]
  one_outcome (Drive n) (Runs v) p a b = elim a [ ]
  one_outcome (Drive n) (Stuck e r) p a b = elim a [ ]
  one_outcome (Drive n) (Place _) p a b = elim a [ ]
  one_outcome (Drive n) (Drove v s) (Runs w) a b = elim b [ ]
  one_outcome (Drive n) (Drove v s) (Stuck e r) a b = elim b [ ]
  one_outcome (Drive n) (Drove v s) (Place m) a b = elim b [ ]
  one_outcome Restart o p a b = elim a [ ]
  one_outcome Judge (Runs v) (Place m) a b = elim b [ ]
  one_outcome Judge (Runs v) (Drove w t) a b = elim b [ ]
  one_outcome Judge (Stuck e r) (Place m) a b = elim b [ ]
  one_outcome Judge (Stuck e r) (Drove w t) a b = elim b [ ]
  one_outcome Judge (Place n) p a b = elim a [ ]
  one_outcome Judge (Drove v s) p a b = elim a [ ]
  one_outcome (Latest i k) (Runs v) p a b = elim a [ ]
  one_outcome (Latest i k) (Stuck e r) p a b = elim a [ ]
  one_outcome (Latest i k) (Place n) (Runs w) a b = elim b [ ]
  one_outcome (Latest i k) (Place n) (Stuck e r) a b = elim b [ ]
  one_outcome (Latest i k) (Place n) (Drove w t) a b = elim b [ ]
  one_outcome (Latest i k) (Drove v s) p a b = elim a [ ]
