-- What judge tells of a new run of a listing's chart.
use Rattle.std.proofs.Common.{◌≡◌, ℕ, ◌≤◌, List, [], ◌∷◌, ◌++◌, length, Some, None, Option, Ok, Err, Result, ap, ◌∙◌, subst, append_assoc, arith}
use Rattle.charts.specs.declared.parts.Event.{Event}
use Rattle.charts.specs.declared.faults.Fault.{Fault}
use Rattle.charts.specs.Judged.{Judged}
use Rattle.charts.specs.Lists.{size}
use Rattle.charts.specs.Sound.{Sound}
use Rattle.checks.specs.Checked.{checked}
use Rattle.media.specs.declared.free.Free.{Free}
use Rattle.media.specs.Carry.{Carry}
use Rattle.media.specs.Media.{free}
use Rattle.orders.specs.Orders.{Order}
use Rattle.tables.specs.TableLists.{table_lists, table_judged}
use Rattle.runs.specs.declared.parts.Refusal.{Refusal}
use Rattle.runs.specs.declared.parts.Verdict.{Verdict}
use Rattle.runs.specs.declared.run.Run.{Run}
use Rattle.runs.specs.Runs.{lists_of, fault_of, StandsAfter, TellsAfter}
use Rattle.runs.specs.Tells.{Tells}
use Rattle.runs.specs.Verdicts.{Judges, JudgeAnswers}
use Rattle.lines.specs.declared.listing.Listing.{Listing}
use Rattle.lines.specs.Lines.{heading_line, verdict_line}
use Rattle.judged.specs.Shown.{chart_in, order_lines, ShowsVerdict}

-- a table without a fault is a sound chart
pub sound_table : (ns : List ℕ) (es : List Event) → checked ns es ≡ None → Sound (table_lists ns es)
sound_table ns es e = subst (λ (f : Option Fault). Judged f (table_lists ns es)) e (table_judged ns es)

module _ (M : Carry) (L : List (List Event)) where
  order_none : Order M L []
  order_none [] i v e = cc
  order_none (x ∷ u) i v e = cc

  -- of a chart without a fault it answers
  answers_ok : (t : Option Fault) (out out' : List ℕ) (v : Verdict) → t ≡ None → Tells t (λ (a : Result Verdict Refusal). JudgeAnswers M L [] out a out') (Ok v) → Judges M L [] out v out'
  answers_ok None out out' v e h = h.judges order_none
  answers_ok (Some f) out out' v e h = cc

  -- and a buffer of 4,096 bytes is enough
  answers_err : (t : Option Fault) (out out' : List ℕ) (r : Refusal) → t ≡ None → length out ≡ 4096 → size L ≤ 4096 → Tells t (λ (a : Result Verdict Refusal). JudgeAnswers M L [] out a out') (Err r) → ⊥
  answers_err None out out' r e room few h = h.short (record { ring = omega arith; order = omega arith })
  answers_err (Some f) out out' r e room few h = cc

-- the same of a new run
module _ (ns : List ℕ) (es : List Event) (run : Run Free) (lists : lists_of run ≡ table_lists ns es) (fault : fault_of run ≡ checked ns es) (faultless : checked ns es ≡ None) (stands : StandsAfter run []) (out out' : List ℕ) where
  abbrev Told : Result Verdict Refusal → Type 0
  Told r = TellsAfter run (λ h (a : Result Verdict Refusal). JudgeAnswers free (lists_of run) h out a out') r

  pub judges : (v : Verdict) → Told (Ok v) → Judges free (table_lists ns es) [] out v out'
  judges v tells = subst (λ (L : List (List Event)). Judges free L [] out v out') lists (answers_ok free (lists_of run) (fault_of run) out out' v (fault ∙ faultless) (tells [] stands))

  pub judge_answers : (r : Refusal) → length out ≡ 4096 → Told (Err r) → ⊥
  judge_answers r room tells =
      let few = (sound_table ns es faultless).few_events in
      let same = ap size lists in
      answers_err free (lists_of run) (fault_of run) out out' r (fault ∙ faultless) room (omega arith) (tells [] stands)

-- a heading, the lines of an order and that of the verdict
pub shown : (l : Listing) (v : Verdict) (out out' zs bs cs ds : List ℕ) → Judges free (chart_in l) [] out v out' → zs ≡ [] → bs ≡ zs ++ heading_line l → cs ≡ bs ++ order_lines l v out' → ds ≡ cs ++ verdict_line l v out' → ShowsVerdict l ds
shown l v out out' zs bs cs ds judges a b c d =
    record {
      verdict = v;
      before = out;
      written = out';
      judges = judges;
      bytes_are =
          d ∙ ap (λ (xs : List ℕ). xs ++ verdict_line l v out') (c ∙ ap (λ (xs : List ℕ). xs ++ order_lines l v out') (b ∙ ap (λ (xs : List ℕ). xs ++ heading_line l) a))
          ∙ append_assoc (heading_line l) (order_lines l v out') (verdict_line l v out');
    }
