-- A step answers what the history fixes.
use Rattle.std.proofs.Common.{◌≡◌, ℕ, true, false, cond, List, Some, Ok, Err, sym, refl, ap, ◌∙◌, subst, arith}
use Rattle.std.proofs.lemmas.Bool.{lt-ltb, cond-true}
use Rattle.charts.specs.declared.parts.Event.{Event}
use Rattle.charts.specs.Lists.{count_of, event_of}
use Rattle.charts.specs.Sound.{Sound}
use Rattle.media.specs.Carry.{Carry}
use Rattle.copies.specs.declared.parts.Slot.{Slot}
use Rattle.copies.specs.Slots.{slot_at}
use Rattle.orders.specs.Histories.{pos}
use Rattle.orders.specs.May.{Waits}
use Rattle.orders.specs.Deciding.{unfinished, may_now_at, waits_now}
use Rattle.orders.proofs.Deciding.{may_true, now_waits}
use Rattle.rules.specs.declared.row.Row.{Row}
use Rattle.rules.specs.Places.{place_of}
use Rattle.rules.proofs.Allowing.{slot_there}
use Rattle.runs.specs.declared.parts.Refusal.TheVariants.{MustWait}
use Rattle.runs.specs.Stands.{Stands}
use Rattle.runs.specs.Steps.{StepAnswers, must_wait}
use Rattle.runs.proofs.Telling.{standing}

module _ (M : Carry) (L : List (List Event)) (sound : Sound L) (rows : List Row) (h : List ℕ) (stands : Stands rows h) (i : ℕ) (x : Slot)
    (next : slot_at L i (place_of rows i) ≡ Some x) where
  -- the next event may run
  pub step_runs : may_now_at M L (place_of rows) i ≡ true → StepAnswers M L h i (Ok x.event)
  step_runs t =
      let s = slot_there L i (place_of rows i) x next in
      let l = s.0 in
      let at = stands i in (
        record { within = omega arith; is = ap (event_of L i) (sym at) ∙ sym (ap (λ (y : Slot). y.event) s.1) },
        may_true M L sound h i (subst (λ (p : ℕ → ℕ). may_now_at M L p i ≡ true) (standing rows h stands) t),
      )

  -- it must wait
  pub step_waits : (j : ℕ) → may_now_at M L (place_of rows) i ≡ false → j ≡ cond (unfinished L (place_of rows) i) (waits_now L (place_of rows) i) i →
      StepAnswers M L h i (Err (MustWait j))
  step_waits j f e =
      let l = (slot_there L i (place_of rows i) x next).0 in
      let at = stands i in
      let same = standing rows h stands in
      let for_it : waits_now L (pos h) i ≡ j =
      sym (e ∙ cond-true (unfinished L (place_of rows) i) (waits_now L (place_of rows) i) i (lt-ltb (place_of rows i) (count_of L i) l) ∙ ap (λ (p : ℕ → ℕ). waits_now L p i) same) in
      must_wait j refl (subst (Waits M L h i) for_it (now_waits M L sound h i (omega arith) (subst (λ (p : ℕ → ℕ). may_now_at M L p i ≡ false) same f)))
