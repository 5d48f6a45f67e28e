-- Each call makes of a run's history what its rule says.
use Rattle.std.proofs.Common.{◌≡◌, ℕ, List, [], ◌∷◌, ◌++◌, length, take, drop, Some, None, Ok, Err, Option, Result, sym, refl, ap, ◌∙◌, inl, inr, arith}
use Rattle.std.proofs.lemmas.List.{take_at}
use Rattle.charts.specs.declared.parts.Event.{Event}
use Rattle.charts.specs.declared.faults.Fault.{Fault}
use Rattle.charts.specs.Sound.{Sound}
use Rattle.media.specs.Carry.{Carry}
use Rattle.orders.specs.May.{May}
use Rattle.orders.specs.Driving.{moved, moved_by}
use Rattle.orders.proofs.Decided.{may_unfinished, may_or_waits}
use Rattle.orders.proofs.Driving.{moved_pos}
use Rattle.orders.proofs.Rings.{left_width}
use Rattle.rules.specs.declared.row.Row.{Row}
use Rattle.rules.specs.Places.{place_of}
use Rattle.runs.specs.declared.parts.Refusal.{Refusal}
use Rattle.runs.specs.declared.parts.Refusal.TheVariants.{Spoiled}
use Rattle.runs.specs.declared.parts.Drove.{Drove}
use Rattle.runs.specs.declared.parts.Verdict.{Verdict}
use Rattle.runs.specs.declared.calls.Call.TheVariants.{Step, Drive, Restart, Judge, Latest}
use Rattle.runs.specs.declared.calls.Answer.{Answer}
use Rattle.runs.specs.declared.calls.Answer.TheVariants.{Stepped, Driven, Restarted, Judged, Place}
use Rattle.runs.specs.Stands.{Stands}
use Rattle.runs.specs.Tells.{Tells, RefusalKeeps}
use Rattle.runs.specs.Moves.{StepMoves, DriveMoves, RestartMoves}
use Rattle.runs.specs.Steps.{StepAnswers, StepRefused, no_instance, nothing_left, must_wait}
use Rattle.runs.specs.Drives.{DriveAnswers}
use Rattle.runs.specs.Verdicts.{JudgeAnswers}
use Rattle.runs.specs.Latests.{LatestAnswers}
use Rattle.runs.specs.Answers.{noted}
use Rattle.runs.specs.Made.{MakesCall}
use Rattle.runs.proofs.Telling.{standing}
use Rattle.runs.proofs.Places.{stands_on}

module _ (M : Carry) (L : List (List Event)) (sound : Sound L) (h : List ℕ) (rows : List Row) (stands : Stands rows h) (out : List ℕ) where
  -- a refused step may not run
  refused_may_not : (i : ℕ) (r : Refusal) → StepRefused M L h i r → May M L h i → ⊥
  refused_may_not i r (no_instance n far) m = let l = left_width M L sound h i (may_unfinished L sound M h i m) in omega arith
  refused_may_not i r (nothing_left n low done) m = let l = may_unfinished L sound M h i m in omega arith
  refused_may_not i r (must_wait j n w) m = may_or_waits L sound M h i j m w

  still : (after : List Row) → ((j : ℕ) → place_of after j ≡ place_of rows j) → Stands after h
  still after same j = same j ∙ stands j

  never_both : {A : Type 0} (a : A) (f : Fault) → ◌≡◌ {A = Result A Refusal} (Ok a) (Err (Spoiled f)) → ⊥
  never_both a f e = let z : ◌≡◌ {A = ℕ} 0 1 = cc in omega arith

  pub step_makes : (after : List Row) (t : Option Fault) (i : ℕ) (r : Result Event Refusal) (a : Answer) → Tells t (StepAnswers M L h i) r →
      StepMoves (place_of rows) (place_of after) i r → a ≡ noted Stepped r → MakesCall t M L h (Step i) out a out after
  step_makes after (Some f) i (Ok e) a tells moves is = absurd (never_both e f tells)
  step_makes after (Some f) i (Err r) a tells moves is =
      record { answered = (Err r, ap Some is, tells, refl); next = h; history = refl; stands = still after moves }
  step_makes after None i (Ok e) a tells moves is =
      record {
        answered = (Ok e, ap Some is, tells, refl);
        next = h ++ (i ∷ []);
        history = inl (tells.1, refl);
        stands = λ j. moves j ∙ ap (λ (p : ℕ → ℕ). moved p i j) (standing rows h stands) ∙ ap (λ (p : ℕ → ℕ). p j) (moved_pos h i);
      }
  step_makes after None i (Err r) a tells moves is =
      record { answered = (Err r, ap Some is, tells, refl); next = h; history = inr (refused_may_not i r tells, refl); stands = still after moves }

  pub drive_makes : (after : List Row) (out' : List ℕ) (t : Option Fault) (n : ℕ) (r : Result Drove Refusal) (a : Answer) →
      Tells t (λ (x : Result Drove Refusal). DriveAnswers M L h n out x out') r → DriveMoves (place_of rows) (place_of after) out' r → RefusalKeeps r out out' →
      a ≡ noted Driven r → MakesCall t M L h (Drive n) out a out' after
  drive_makes after out' (Some f) n (Ok d) a tells moves keeps is = absurd (never_both d f tells)
  drive_makes after out' (Some f) n (Err r) a tells moves keeps is =
      record { answered = (Err r, ap Some is, tells, keeps); next = h; history = refl; stands = still after moves }
  drive_makes after out' None n (Ok d) a tells moves keeps is =
      let w = tells.0 in
      let on = tells.1 in
      let front : take d.made out' ≡ w = ap (take d.made) on.written ∙ take_at w (drop (length w) out) d.made (sym on.made) in
      record {
        answered = (Ok d, ap Some is, tells, keeps);
        next = h ++ w;
        history = inl (on.room, (w, on.drives, refl));
        stands = stands_on rows after h w stands (λ j. moves j ∙ ap (λ (v : List ℕ). moved_by (place_of rows) v j) front);
      }
  drive_makes after out' None n (Err r) a tells moves keeps is =
      record { answered = (Err r, ap Some is, tells, keeps); next = h; history = inr (tells.short, refl); stands = still after moves }

  pub restart_makes : (after : List Row) (t : Option Fault) (r : Result (Unit {0}) Refusal) (a : Answer) → Tells t (λ x. x ≡ Ok tt) r →
      RestartMoves (place_of rows) (place_of after) r → a ≡ noted (λ _. Restarted) r → MakesCall t M L h Restart out a out after
  restart_makes after (Some f) (Ok u) a tells moves is = absurd (never_both u f tells)
  restart_makes after (Some f) (Err r) a tells moves is =
      record { answered = (Err r, ap Some is, tells, refl); next = h; history = refl; stands = still after moves }
  restart_makes after None (Ok u) a tells moves is = record { answered = (Ok u, ap Some is, tells, refl); next = []; history = refl; stands = moves }
  restart_makes after None (Err r) a tells moves is = absurd (let z : ◌≡◌ {A = ℕ} 0 1 = cc in omega arith)

  pub judge_makes : (out' : List ℕ) (t : Option Fault) (r : Result Verdict Refusal) (a : Answer) →
      Tells t (λ (x : Result Verdict Refusal). JudgeAnswers M L h out x out') r → RefusalKeeps r out out' → a ≡ noted Judged r → MakesCall t M L h Judge out a out' rows
  judge_makes out' (Some f) r a tells keeps is = record { answered = (r, ap Some is, tells, keeps); next = h; history = refl; stands = stands }
  judge_makes out' None r a tells keeps is = record { answered = (r, ap Some is, tells, keeps); next = h; history = refl; stands = stands }

  pub latest_makes : (t : Option Fault) (i k : ℕ) (r : Result ℕ Refusal) (a : Answer) → Tells t (LatestAnswers M L h i k) r → a ≡ noted Place r →
      MakesCall t M L h (Latest i k) out a out rows
  latest_makes (Some f) i k r a tells is = record { answered = (r, ap Some is, tells, refl); next = h; history = refl; stands = stands }
  latest_makes None i k r a tells is = record { answered = (r, ap Some is, tells, refl); next = h; history = refl; stands = stands }
