-- What the check of a log tells of a chart without a fault.
use Rattle.std.proofs.Common.{◌≡◌, ℕ, List, [], Some, None, Option, Err, Result, subst, arith}
use Rattle.charts.specs.declared.parts.Event.{Event}
use Rattle.charts.specs.declared.faults.Fault.{Fault}
use Rattle.media.specs.Carry.{Carry}
use Rattle.media.specs.Media.{free}
use Rattle.logs.specs.declared.parts.Refusal.{Refusal}
use Rattle.logs.specs.declared.parts.Refusal.TheVariants.{Spoiled}
use Rattle.logs.specs.declared.parts.Verdict.{Verdict}
use Rattle.logs.specs.AnnexB.{AsAnnexB}
use Rattle.logs.specs.Logs.{RefusedBy, AfterEnd, nothing, cut_short as end_short, more, AfterEntries, goes_on, refused, cut_short as short, wrong_record as wrong, wrong_count, ends, LogAnswered, cut_short, wrong_record, other_chart, begins, LogAnswers}
use Rattle.verdicts.specs.declared.answers.LogAnswer.{LogAnswer}
use Rattle.verdicts.specs.Checking.{Checked, Says}

-- no answer is a fault of the chart
module _ (M : Carry) (L : List (List Event)) (r : Result Verdict Refusal) (f : Fault) (is : r ≡ Err (Spoiled f)) where
  by_record : (number n : ℕ) → RefusedBy number n r → ⊥
  by_record number n by = absurd (let w = by.2 in let z : ◌≡◌ {A = ℕ} 0 1 = cc in omega arith)

  after_end : (v : Verdict) (n : ℕ) (bytes : List ℕ) → AfterEnd v n bytes r → ⊥
  after_end v n bytes (nothing e w) = absurd (let z : ◌≡◌ {A = ℕ} 0 1 = cc in omega arith)
  after_end v n bytes (end_short a b by) = by_record 51 n by
  after_end v n bytes (more a by) = by_record 52 n by

  after_entries : (h bytes : List ℕ) → AfterEntries M L r h bytes → ⊥
  after_entries _ _ (goes_on h bytes x rest b t a) = after_entries _ rest a
  after_entries _ _ (refused h bytes x c b e w) = absurd (let z : ◌≡◌ {A = ℕ} 0 1 = cc in omega arith)
  after_entries _ _ (short h bytes e by) = by_record 51 _ by
  after_entries _ _ (wrong h bytes a b c by) = by_record 52 _ by
  after_entries _ _ (wrong_count h bytes x b e by) = by_record 55 _ by
  after_entries _ _ (ends h bytes v rest b w a) = after_end v _ rest a

  never_spoiled : (bytes : List ℕ) → LogAnswered M L bytes r → ⊥
  never_spoiled bytes (cut_short e by) = by_record 51 0 by
  never_spoiled bytes (wrong_record a b by) = by_record 52 0 by
  never_spoiled bytes (other_chart x b e by) = by_record 53 0 by
  never_spoiled bytes (begins rest b a) = after_entries [] rest a

-- the answer to a log of a chart without a fault
answered : (t : Option Fault) (L : List (List Event)) (log : List ℕ) (r : Result Verdict Refusal) → t ≡ None → LogAnswers t free L log r → LogAnswered free L log r
answered None L log r e a = a
answered (Some f) L log r e a = absurd (let z : ◌≡◌ {A = ℕ} 0 1 = cc in omega arith)

module _ (t : Option Fault) (L : List (List Event)) (log : List ℕ) (r : Result Verdict Refusal) (sound : t ≡ None) (answers : LogAnswers t free L log r) where
  pub no_spoiled : (f : Fault) → r ≡ Err (Spoiled f) → ⊥
  no_spoiled f is = never_spoiled free L r f is log (answered t L log r sound answers)

  -- what it says in numbers
  pub checked_log : AsAnnexB L log r → (K : List (List Event)) → L ≡ K → (x : LogAnswer) → Says r x → Checked K log r x
  checked_log annex K same x says = subst (λ (J : List (List Event)). Checked J log r x) same (record { answered = answered t L log r sound answers; annex = annex; says = says })
