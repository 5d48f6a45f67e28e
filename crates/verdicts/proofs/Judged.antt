-- What judge tells of a new run, over the medium that carries every message in any order.
use Rattle.std.proofs.Common.{◌≡◌, ℕ, ◌≤◌, List, [], ◌∷◌, length, take, Some, None, Option, Ok, Err, Result, sym, ap, ◌∙◌, subst, subst₂, arith}
use Rattle.std.proofs.Math.Seq.{take-append_seam}
use Rattle.std.proofs.lemmas.List.{length-append}
use Rattle.charts.specs.declared.parts.Event.{Event}
use Rattle.charts.specs.declared.faults.Fault.{Fault}
use Rattle.charts.specs.Judged.{Judged}
use Rattle.charts.specs.Sound.{Sound}
use Rattle.media.specs.Media.{free}
use Rattle.orders.specs.Orders.{Order, Full}
use Rattle.orders.proofs.Rings.{ring_length}
use Rattle.runs.specs.declared.parts.Refusal.{Refusal}
use Rattle.runs.specs.declared.parts.Verdict.{Verdict}
use Rattle.runs.specs.declared.parts.Verdict.TheVariants.{Runs, Stuck}
use Rattle.runs.specs.Tells.{Tells}
use Rattle.runs.specs.Verdicts.{JudgeAnswers}
use Rattle.tables.specs.TableLists.{table_lists, table_judged}
use Rattle.checks.specs.Checked.{checked}
use Rattle.verdicts.specs.Judging.{StuckIn}

-- a chart without a fault is told of as it should be
told : {A : Type 0} (f : Option Fault) (P : Result A Refusal → Type 0) (r : Result A Refusal) → f ≡ None → Tells f P r → P r
told None P r e t = t
told (Some f) P r e t = absurd (let z : ◌≡◌ {A = ℕ} 0 1 = cc in omega arith)

-- and is sound
judged_sound : (f : Option Fault) (L : List (List Event)) → f ≡ None → Judged f L → Sound L
judged_sound None L e s = s
judged_sound (Some f) L e s = absurd (let z : ◌≡◌ {A = ℕ} 0 1 = cc in omega arith)

pub table_sound : (ns : List ℕ) (es : List Event) → checked ns es ≡ None → Sound (table_lists ns es)
table_sound ns es e = judged_sound (checked ns es) (table_lists ns es) e (table_judged ns es)

-- what a table has is what the slices have that it was made of
module _ (ns ms : List ℕ) (es ds : List Event) (same_lengths : ms ≡ ns) (same_events : ds ≡ es) where
  pub same_fault : checked ms ds ≡ checked ns es
  same_fault = ap (λ (x : List ℕ). checked x ds) same_lengths ∙ ap (checked ns) same_events

  pub same_lists : table_lists ms ds ≡ table_lists ns es
  same_lists = ap (λ (x : List ℕ). table_lists x ds) same_lengths ∙ ap (table_lists ns) same_events

  -- judge tells of it
  pub judge_told : checked ns es ≡ None → (f : Option Fault) (L : List (List Event)) → f ≡ checked ms ds → L ≡ table_lists ms ds → (out out' : List ℕ) (r : Result Verdict Refusal) →
      Tells f (λ a. JudgeAnswers free L [] out a out') r → (a : Result Verdict Refusal) → r ≡ a → JudgeAnswers free (table_lists ns es) [] out a out'
  judge_told sound f L fault lists out out' r t a is =
      subst₂ (λ (K : List (List Event)) (x : Result Verdict Refusal). JudgeAnswers free K [] out x out') (lists ∙ same_lists) is (told f (λ x. JudgeAnswers free L [] out x out') r (fault ∙ same_fault ∙ sound) t)

-- no step is an order
no_steps : (L : List (List Event)) → Order free L []
no_steps L u i v e = absurd (let a = length-append u (i ∷ v) in let b = ap length e in omega arith)

-- the ring that was written
pub record RingIn (L : List (List Event)) (n : ℕ) (out : List ℕ) : Type 0 where
  pub stuck : StuckIn L (take n out)
  pub long : n ≡ length (take n out)
  pub few : length (take n out) ≤ 32

module _ (L : List (List Event)) (sound : Sound L) (out out' : List ℕ) where
  -- a full order exists
  pub runs_full : (n : ℕ) → JudgeAnswers free L [] out (Ok (Runs n)) out' → (w : List ℕ) × Full free L w
  runs_full n a = let j = a.judges (no_steps L) in (j.0, j.1.full)

  -- none does
  pub stuck_ring : (n : ℕ) → JudgeAnswers free L [] out (Ok (Stuck n)) out' → RingIn L n out'
  stuck_ring n a =
      let j = a.judges (no_steps L) in
      let ring = j.0 in
      let s = j.1 in
      let is : take n out' ≡ ring = ap (λ (k : ℕ). take k out') s.long ∙ ap (take (length ring)) s.written ∙ take-append_seam ring _ in
      let most = ring_length free L sound s.rest ring s.ring_there in
      let few = sound.few_instances in
      record {
        stuck = subst (StuckIn L) (sym is)
            (record { never = s.never; last = s.rest; order = λ u i v e. (s.lowest u i v e).can; ended = s.ended; everywhere = s.ring_everywhere });
        long = s.long ∙ ap length (sym is);
        few = let same = ap length is in let m = most.1 in omega arith;
      }

  -- a buffer for all events is no short one
  pub never_refused : (r : Refusal) → length out ≡ 4096 → JudgeAnswers free L [] out (Err r) out' → ⊥
  never_refused r long a = let few = sound.few_events in a.short (record { ring = omega arith; order = omega arith })
