-- A whole log, a record at a time.
use Rattle.std.proofs.Common.{◌≡◌, ℕ, suc, ◌+◌, ◌-◌, ◌≤◌, List, [], ◌∷◌, ◌++◌, length, take, drop, Some, None, Ok, Err, Option, Result, sym, refl, ap, ap₂, ◌∙◌, subst, arith, length-append, length-drop, IsErr, IsErrAnd}
use Rattle.std.proofs.lemmas.List.{take_all}
use Rattle.std.proofs.Math.Seq.{drop-append_seam}
use Rattle.charts.specs.declared.parts.Event.{Event}
use Rattle.charts.specs.declared.faults.Fault.{Fault}
use Rattle.charts.specs.Sound.{Sound}
use Rattle.media.specs.Carry.{Carry}
use Rattle.orders.specs.May.{May}
use Rattle.orders.specs.Orders.{Order}
use Rattle.orders.proofs.Growing.{steps_none, steps_push}
use Rattle.orders.proofs.Verdicts.{order_length}
use Rattle.rules.specs.declared.row.Row.{Row}
use Rattle.runs.specs.Stands.{Stands}
use Rattle.records.specs.declared.parts.Head.{Head}
use Rattle.records.specs.declared.parts.Entry.{Entry}
use Rattle.records.specs.declared.parts.End.{End}
use Rattle.records.specs.declared.parts.Record.{Record}
use Rattle.records.specs.declared.parts.Record.TheVariants.{Head as head, Entry as entry, End as end}
use Rattle.records.specs.declared.parts.Flaw.{Flaw}
use Rattle.records.specs.declared.parts.Flaw.TheVariants.{CutShort, WrongForm}
use Rattle.records.specs.Records.{head_bytes, entry_bytes, end_bytes, written}
use Rattle.records.specs.Reading.{EndsEarly, BeginsWith, Reads}
use Rattle.logs.specs.declared.parts.Cause.{Cause}
use Rattle.logs.specs.declared.parts.Cause.TheVariants.{WrongRecord}
use Rattle.logs.specs.declared.parts.Refusal.{Refusal}
use Rattle.logs.specs.declared.parts.Refusal.TheVariants.{Spoiled, Record as Refused}
use Rattle.logs.specs.declared.parts.Verdict.{Verdict}
use Rattle.logs.specs.declared.parts.Waiting.{Waiting as W}
use Rattle.logs.specs.declared.parts.Following.{Following as F}
use Rattle.logs.specs.declared.parts.Closed.{Closed as C}
use Rattle.logs.specs.declared.stages.Stage.{Stage}
use Rattle.logs.specs.declared.stages.Stage.TheVariants.{Waiting, Following}
use Rattle.logs.specs.Causes.{number_of, of_flaw}
use Rattle.logs.specs.Followers.{index_after, one_more}
use Rattle.logs.specs.Heads.{TakesHead}
use Rattle.logs.specs.Entries.{Taken, EntryRefused}
use Rattle.logs.specs.Ends.{end_of, VerdictIs}
use Rattle.logs.specs.Stages.{index_of}
use Rattle.logs.specs.Logs.{AfterEnd, AfterEntries, goes_on, refused, cut_short as short, wrong_record as wrong, wrong_count, ends, LogAnswered, cut_short, wrong_record, other_chart, begins, LogAnswers}

-- a follower that has taken the entries of a history, with what is then left of the log
pub record Far (M : Carry) (L : List (List Event)) (log rest : List ℕ) (rows : List Row) (f : F) (h : List ℕ) : Type 0 where
  pub stands : Stands rows h
  pub order : Order M L h
  pub index : f.index ≡ suc (length h)
  pub entries : f.entries ≡ length h
  pub on : (r : Result Verdict Refusal) → AfterEntries M L r h rest → LogAnswered M L log r

-- how far a log has been followed
abbrev pub So : Carry → List (List Event) → List ℕ → List ℕ → List Row → Stage → Type 0
So M L log rest rows (Waiting w) = (rest ≡ log) × Stands rows []
So M L log rest rows (Following f) = (h : List ℕ) × Far M L log rest rows f h

-- what is left behind a record
abbrev pub behind : ℕ → List ℕ → List ℕ
behind n bytes = take (length bytes - n) (drop n bytes)

pub behind_record : (bytes : List ℕ) (r : Record) (n : ℕ) (b : BeginsWith bytes r) → n ≡ length (written r) → behind n bytes ≡ b.0
behind_record bytes r n b e =
    take_all (length bytes - n) (drop n bytes) (omega (arith, length-drop n bytes))
    ∙ ap₂ (λ (k : ℕ) (xs : List ℕ). drop k xs) e b.1 ∙ drop-append_seam (written r) b.0

-- bytes that begin with a record do not end early
pub not_early : (bytes : List ℕ) (r : Record) → BeginsWith bytes r → EndsEarly bytes → ⊥
not_early bytes (head x) b e = let f = subst EndsEarly b.1 e in omega arith
not_early bytes (entry x) b e = let f = subst EndsEarly b.1 e in omega arith
not_early bytes (end x) b e = let f = subst EndsEarly b.1 e in omega arith

entry_no_head : (x : Entry) (y : Head) → entry x ≡ head y → ⊥
entry_no_head x y e = let z : ◌≡◌ {A = ℕ} 0 1 = cc in omega arith

end_no_head : (x : End) (y : Head) → end x ≡ head y → ⊥
end_no_head x y e = let z : ◌≡◌ {A = ℕ} 0 1 = cc in omega arith

-- a record that is read twice is one
pub only_read : (x : Record × ℕ) (y : Record) (n : ℕ) → ◌≡◌ {A = Result (Record × ℕ) Flaw} (Ok x) (Ok (y, n)) → y ≡ x.0
only_read x y n e = let same : x ≡ (y, n) = cc in sym (ap (λ (z : Record × ℕ). z.0) same)

-- what the exit of a refusal answers
pub exit_is : {A : Type 0} (r : Result Verdict Refusal) (f : A × Refusal) → IsErr r × IsErrAnd r (λ e. e ≡ f.1) → r ≡ Err f.1
exit_is (Ok v) f e = absurd e.1
exit_is (Err x) f e = ap Err e.1

module _ (M : Carry) (L : List (List Event)) (log rest : List ℕ) (rows : List Row) where
  -- no record is read
  pub flawed : (s : Stage) → So M L log rest rows s → (flaw : Flaw) → Reads rest (Err flaw) → (c : Cause) → c ≡ of_flaw flaw → (r : Refusal) → r ≡ Refused (index_of s) c → LogAnswered M L log (Err r)
  flawed (Waiting w) so CutShort f c e r is = cut_short (subst EndsEarly so.0 f) (c, ap number_of e, ap Err is)
  flawed (Waiting w) so WrongForm f c e r is =
      wrong_record (λ y. f.0 (subst EndsEarly (sym so.0) y)) (λ x b. f.1 (head x) (subst (λ (bs : List ℕ). BeginsWith bs (head x)) (sym so.0) b)) (c, ap number_of e, ap Err is)
  flawed (Following g) so CutShort f c e r is =
      so.1.on (Err r) (short so.0 rest f (c, ap number_of e, ap Err is ∙ ap (λ (n : ℕ). Err (Refused n c)) so.1.index))
  flawed (Following g) so WrongForm f c e r is =
      so.1.on (Err r) (wrong so.0 rest f.0 (λ x. f.1 (entry x)) (λ x. f.1 (end x)) (c, ap number_of e, ap Err is ∙ ap (λ (n : ℕ). Err (Refused n c)) so.1.index))

  -- another record than a head is read, where the head is to stand
  pub no_head : (w : W) (s : Stage) → s ≡ Waiting w → So M L log rest rows s → (x : Record) → BeginsWith rest x → ((y : Record) → BeginsWith rest y → y ≡ x) → ((y : Head) → x ≡ head y → ⊥) →
      (f : W × Refusal) → f ≡ (w, Refused 0 WrongRecord) → (r : Refusal) → r ≡ f.1 → LogAnswered M L log (Err r)
  no_head w s e so x b only none f g r is =
      let start = subst (So M L log rest rows) e so in
      wrong_record (λ y. not_early rest x b (subst EndsEarly (sym start.0) y)) (λ h c. none h (sym (only (head h) (subst (λ (bs : List ℕ). BeginsWith bs (head h)) (sym start.0) c))))
      (WrongRecord, refl, ap Err (is ∙ ap (λ (z : W × Refusal). z.1) g))

  -- a head is read behind the head
  pub second_head : (g : F) (s : Stage) → s ≡ Following g → So M L log rest rows s → (x : Record) → BeginsWith rest x → ((y : Record) → BeginsWith rest y → y ≡ x) → (z : Head) → x ≡ head z →
      (f : F × Refusal) → f ≡ (g, Refused g.index WrongRecord) → (r : Refusal) → r ≡ f.1 → LogAnswered M L log (Err r)
  second_head g s e so x b only z i f t r is =
      let far = subst (So M L log rest rows) e so in
      far.1.on (Err r)
      (wrong far.0 rest (not_early rest x b) (λ y c. entry_no_head y z (only (entry y) c ∙ i)) (λ y c. end_no_head y z (only (end y) c ∙ i))
      (WrongRecord, refl, ap Err (is ∙ ap (λ (z : F × Refusal). z.1) t) ∙ ap (λ (n : ℕ). Err (Refused n WrongRecord)) far.1.index))

  -- a head
  pub head_refused : (w : W) (s : Stage) → s ≡ Waiting w → So M L log rest rows s → (x : Head) → BeginsWith rest (head x) → (f : W × Refusal) → TakesHead L w x (Err f) → (r : Result Verdict Refusal) → r ≡ Err f.1 → LogAnswered M L log r
  head_refused w s e so x b f t r is =
      let start = subst (So M L log rest rows) e so in
      other_chart x (subst (λ (bs : List ℕ). BeginsWith bs (head x)) start.0 b) t.3 (t.0, t.2, is ∙ ap (λ (y : W × Refusal). Err y.1) t.1)

  pub head_taken : (w : W) (s : Stage) → s ≡ Waiting w → So M L log rest rows s → (x : Head) (b : BeginsWith rest (head x)) → (f : F) → TakesHead L w x (Ok f) → (more : List ℕ) → more ≡ b.0 → So M L log more rows (Following f)
  head_taken w s e so x b f t more is =
      let start = subst (So M L log rest rows) e so in (
        [],
        record {
          stands = start.1;
          order = steps_none (May M L);
          index = ap (λ (g : F). g.index) t.1;
          entries = ap (λ (g : F). g.entries) t.1;
          on = λ r a. begins more (sym start.0 ∙ b.1 ∙ ap₂ (λ (y : Head) (bs : List ℕ). head_bytes y ++ bs) t.0 (sym is)) a;
        },
      )

  -- an entry
  pub entry_refused : (g : F) (s : Stage) → s ≡ Following g → So M L log rest rows s → (x : Entry) → BeginsWith rest (entry x) → (f : F × Refusal) →
      ((h : List ℕ) → Stands rows h → (c : Cause) × (f ≡ (g, Refused g.index c)) × EntryRefused M L h x c) → (r : Result Verdict Refusal) → r ≡ Err f.1 → LogAnswered M L log r
  entry_refused g s e so x b f t r is =
      let far = subst (So M L log rest rows) e so in
      let y = t far.0 far.1.stands in
      far.1.on r (refused far.0 rest x y.0 b y.2 (is ∙ ap (λ (z : F × Refusal). Err z.1) y.1 ∙ ap (λ (n : ℕ). Err (Refused n y.0)) far.1.index))

  pub entry_taken : Sound L → (g : F) (s : Stage) → s ≡ Following g → So M L log rest rows s → (x : Entry) (b : BeginsWith rest (entry x)) → (f : F) (after : List Row) →
      ((h : List ℕ) → Stands rows h → Taken M L h x × (f ≡ one_more g) × Stands after (h ++ (x.instance ∷ []))) → (more : List ℕ) → more ≡ b.0 → So M L log more after (Following f)
  entry_taken sound g s e so x b f after t more is =
      let far = subst (So M L log rest rows) e so in
      let h = far.0 in
      let y = t h far.1.stands in
      let short : length h ≤ 4096 = omega (arith, order_length M L sound h far.1.order, sound.few_events) in
      let long : length (h ++ (x.instance ∷ [])) ≡ suc (length h) = omega (arith, length-append h (x.instance ∷ [])) in
      let i = ap (λ (k : F). k.index) y.1 in
      let n = ap (λ (k : F). k.entries) y.1 in
      let i' = far.1.index in
      let n' = far.1.entries in (
        h ++ (x.instance ∷ []),
        record {
          stands = y.2;
          order = steps_push (May M L) h x.instance far.1.order y.0.may;
          index = omega arith;
          entries = omega arith;
          on = λ r a. far.1.on r (goes_on h rest x more (b.1 ∙ ap (λ (bs : List ℕ). entry_bytes x ++ bs) (sym is)) y.0 a);
        },
      )

  -- an end
  pub end_refused : (g : F) (s : Stage) → s ≡ Following g → So M L log rest rows s → (x : End) → BeginsWith rest (end x) → (f : F × Refusal) →
      ((h : List ℕ) → Stands rows h → (c : Cause) × (f ≡ (g, Refused g.index c)) × (number_of c ≡ 55) × (x ≡ end_of g.entries → ⊥)) → (r : Result Verdict Refusal) → r ≡ Err f.1 → LogAnswered M L log r
  end_refused g s e so x b f t r is =
      let far = subst (So M L log rest rows) e so in
      let y = t far.0 far.1.stands in
      far.1.on r
      (wrong_count far.0 rest x b (λ z. y.3 (z ∙ ap end_of (sym far.1.entries))) (y.0, y.2, is ∙ ap (λ (z : F × Refusal). Err z.1) y.1 ∙ ap (λ (n : ℕ). Err (Refused n y.0)) far.1.index))

  pub end_taken : Sound L → (g : F) (s : Stage) → s ≡ Following g → So M L log rest rows s → (x : End) (b : BeginsWith rest (end x)) → (closed : C) (v : Verdict) →
      ((h : List ℕ) → Stands rows h → (x ≡ end_of g.entries) × (closed ≡ record { index = index_after g.index }) × VerdictIs L h v) → (more : List ℕ) → more ≡ b.0 →
      (r : Result Verdict Refusal) → AfterEnd v closed.index more r → LogAnswered M L log r
  end_taken sound g s e so x b closed v t more is r a =
      let far = subst (So M L log rest rows) e so in
      let h = far.0 in
      let y = t h far.1.stands in
      let short : length h ≤ 4096 = omega (arith, order_length M L sound h far.1.order, sound.few_events) in
      let i = ap (λ (k : C). k.index) y.1 in
      let i' = far.1.index in
      let next : closed.index ≡ length h + 2 = omega arith in
      far.1.on r
      (ends h rest v more (b.1 ∙ ap₂ (λ (z : End) (bs : List ℕ). end_bytes z ++ bs) (y.0 ∙ ap end_of far.1.entries) (sym is)) y.2 (subst (λ (n : ℕ). AfterEnd v n more r) next a))

-- the answer to a log on a new run
pub spoiled_answers : (t : Option Fault) (M : Carry) (L : List (List Event)) (log : List ℕ) (f : Fault) (r : Result Verdict Refusal) → t ≡ Some f → r ≡ Err (Spoiled f) → LogAnswers t M L log r
spoiled_answers None M L log f r e is = absurd (let z : ◌≡◌ {A = ℕ} 0 1 = cc in omega arith)
spoiled_answers (Some x) M L log f r e is = let same : x ≡ f = cc in is ∙ ap (λ (y : Fault). Err (Spoiled y)) (sym same)

pub sound_answers : (t : Option Fault) (M : Carry) (L : List (List Event)) (log : List ℕ) (r : Result Verdict Refusal) → t ≡ None → LogAnswered M L log r → LogAnswers t M L log r
sound_answers None M L log r e a = a
sound_answers (Some f) M L log r e a = absurd (let z : ◌≡◌ {A = ℕ} 0 1 = cc in omega arith)
