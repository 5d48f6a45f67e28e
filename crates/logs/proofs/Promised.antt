-- The answer to a log is what Annex B says of it.
use Rattle.std.proofs.Common.{◌≡◌, ℕ, suc, ◌+◌, ◌≤◌, List, [], ◌∷◌, ◌++◌, length, Bool, true, false, cond, ◌==◌, add-zero, zero-add, Some, None, Option, Ok, Err, Result, ◌↔◌, sym, refl, ap, ◌∙◌, subst, subst₂, arith, length-append}
use Rattle.std.proofs.lemmas.List.{append_assoc, append-nil}
use Rattle.std.proofs.lemmas.Bool.{eqb-true, eqb-false}
use Rattle.charts.specs.declared.parts.Event.{Event}
use Rattle.charts.specs.declared.faults.Fault.{Fault}
use Rattle.charts.specs.Judged.{Judged}
use Rattle.charts.specs.Events.{output, input, action, environment}
use Rattle.charts.specs.Lists.{event_of}
use Rattle.charts.specs.Sound.{Sound}
use Rattle.media.specs.Carry.{Carry}
use Rattle.media.specs.Media.{free}
use Rattle.orders.specs.Histories.{pos, Next}
use Rattle.orders.specs.May.{May}
use Rattle.orders.specs.Orders.{Order}
use Rattle.orders.proofs.Growing.{steps_none, steps_push}
use Rattle.orders.proofs.Decided.{may_unfinished, may_or_waits}
use Rattle.orders.proofs.Verdicts.{order_within}
use Rattle.process.specs.Actions.{Action, out, «in», out_env, in_env, local}
use Rattle.process.specs.Processes.{Process}
use Rattle.process.specs.ChartProcess.{action_of, chart, actions_after, actions}
use Rattle.process.specs.Allowed.{Runs, MayTerminate}
use Rattle.process.specs.Exactly.{Exactly}
use Rattle.process.proofs.Exacts.{every_sound_chart}
use Rattle.process.proofs.Passages.{instance_of_lem}
use Rattle.records.specs.declared.parts.Entry.{Entry}
use Rattle.records.specs.declared.parts.Record.TheVariants.{Head as head, Entry as entry, End as end}
use Rattle.records.specs.Records.{head_bytes, entry_bytes, end_bytes}
use Rattle.records.specs.Reading.{EndsEarly}
use Rattle.records.specs.Framed.{entries_bytes}
use Rattle.logs.specs.declared.parts.Cause.{Cause}
use Rattle.logs.specs.declared.parts.Refusal.{Refusal}
use Rattle.logs.specs.declared.parts.Verdict.{Verdict}
use Rattle.logs.specs.declared.parts.Verdict.TheVariants.{Full as full, Part as part}
use Rattle.logs.specs.Heads.{head_of}
use Rattle.logs.specs.Entries.{NamesNext, Taken, EntryRefused, not_next, must_wait}
use Rattle.logs.specs.Ends.{end_of, VerdictIs}
use Rattle.logs.specs.AnnexB.{kind_of, number_in, Names, NamesEach, Allowed, AsAnnexB}
use Rattle.logs.specs.Logs.{AfterEnd, nothing, cut_short as end_short, more, AfterEntries, goes_on, refused, cut_short as short, wrong_record as wrong, wrong_count, ends, LogAnswered, cut_short, wrong_record, other_chart, begins, LogAnswers}
use Rattle.logs.proofs.Onward.{not_early}
use Rattle.logs.proofs.Split.{one_head, one_entry, one_end, entry_no_end}

-- an answer is no refusal
answered : {A : Type 0} {r : Result Verdict Refusal} {v : Verdict} {x : Refusal} → r ≡ Ok v → r ≡ Err x → A
answered a b = absurd (let z : ◌≡◌ {A = ℕ} 0 1 = cc in omega arith)

-- the action of an event has its kind and number
kind_by : (i : ℕ) (e : Event) (a b c : Bool) → (e.kind == output) ≡ a → (e.kind == input) ≡ c → output ≤ e.kind → e.kind ≤ action →
    kind_of (cond a (cond b (out_env i e.number) (out i e.peer e.number)) (cond c (cond b (in_env i e.number) («in» e.peer i e.number)) (local i e.number))) ≡ e.kind
kind_by i e true true c x y low high = sym (eqb-true e.kind output x)
kind_by i e true false c x y low high = sym (eqb-true e.kind output x)
kind_by i e false true true x y low high = sym (eqb-true e.kind input y)
kind_by i e false false true x y low high = sym (eqb-true e.kind input y)
kind_by i e false b false x y low high =
    let n = eqb-false e.kind output x in
    let m = eqb-false e.kind input y in
    omega arith

kind_of_lem : (i : ℕ) (e : Event) → output ≤ e.kind → e.kind ≤ action → kind_of (action_of i e) ≡ e.kind
kind_of_lem i e = kind_by i e (e.kind == output) (e.peer == environment) (e.kind == input) refl refl

number_by : (i : ℕ) (e : Event) (a b c : Bool) →
    number_in (cond a (cond b (out_env i e.number) (out i e.peer e.number)) (cond c (cond b (in_env i e.number) («in» e.peer i e.number)) (local i e.number))) ≡ e.number
number_by i e true true c = refl
number_by i e true false c = refl
number_by i e false true true = refl
number_by i e false false true = refl
number_by i e false b false = refl

number_in_lem : (i : ℕ) (e : Event) → number_in (action_of i e) ≡ e.number
number_in_lem i e = number_by i e (e.kind == output) (e.peer == environment) (e.kind == input)

-- what a list begins with stands before its rest
pub step_assoc : (h : List ℕ) (i : ℕ) (w : List ℕ) → (h ++ (i ∷ [])) ++ w ≡ h ++ (i ∷ w)
step_assoc h i w = append_assoc h (i ∷ []) w

longer : (h : List ℕ) (i n : ℕ) → length (h ++ (i ∷ [])) + n ≡ length h + suc n
longer h i n = omega (arith, length-append h (i ∷ []))

module _ (L : List (List Event)) (sound : Sound L) where
  -- an entry that names the next event of its instance names its action of its instance's next event
  pub names_taken : (h : List ℕ) (x : Entry) → NamesNext L h x → Names x (action_of x.instance (event_of L x.instance (pos h x.instance)))
  names_taken h x n =
      let i = x.instance in
      let k = sound.kinds i (pos h i) n.event n.next in
      subst (λ (e : Event). Names x (action_of i e)) (sym n.next.is)
      (record { instance_is = instance_of_lem i n.event; kind_is = kind_of_lem i n.event k.0 k.1 ∙ n.kind; number_is = number_in_lem i n.event ∙ n.number })

  -- an entry that names the action of a step is taken
  pub taken_named : (h : List ℕ) (i : ℕ) (x : Entry) → May free L h i → Names x (action_of i (event_of L i (pos h i))) → (i ≡ x.instance) × Taken free L h x
  taken_named h i x may n =
      let e = event_of L i (pos h i) in
      let next : Next L h i e = record { within = may_unfinished L sound free h i may; is = refl } in
      let k = sound.kinds i (pos h i) e next in
      let same : i ≡ x.instance = sym (instance_of_lem i e) ∙ n.instance_is in (
        same,
        record {
          names =
              record {
                event = e;
                next = subst (λ (j : ℕ). Next L h j e) same next;
                kind = sym (kind_of_lem i e k.0 k.1) ∙ n.kind_is;
                number = sym (number_in_lem i e) ∙ n.number_is;
              };
          may = subst (May free L h) same may;
        },
      )

  -- an entry that names the action of a step is not refused
  pub not_refused : (h : List ℕ) (x : Entry) (c : Cause) → Taken free L h x → EntryRefused free L h x c → ⊥
  not_refused h x c t (not_next n none) = none t.names
  not_refused h x c t (must_wait j n w names waits) = may_or_waits L sound free h x.instance j t.may waits

  module _ (r : Result Verdict Refusal) where
    -- the entries and steps from a history on to the end of a log that is answered
    record Onwards (h bytes : List ℕ) : Type 0 where
      entries : List Entry
      steps : List ℕ
      is : bytes ≡ entries_bytes entries ++ end_bytes (end_of (length h + length entries))
      order : Order free L (h ++ steps)
      named : NamesEach entries (actions_after L h steps)

    onwards_end : (h bytes : List ℕ) (v w : Verdict) (rest : List ℕ) → r ≡ Ok v → Order free L h → bytes ≡ end_bytes (end_of (length h)) ++ rest → AfterEnd w (length h + 2) rest r → Onwards h bytes
    onwards_end h bytes v w rest a o is (nothing e b) =
        record {
          entries = [];
          steps = [];
          is = is ∙ ap (λ (bs : List ℕ). end_bytes (end_of (length h)) ++ bs) e ∙ append-nil (end_bytes (end_of (length h))) ∙ ap (λ (n : ℕ). end_bytes (end_of n)) (sym (add-zero (length h)));
          order = subst (Order free L) (sym (append-nil h)) o;
          named = tt;
        }
    onwards_end h bytes v w rest a o is (end_short n e t) = answered a t.2
    onwards_end h bytes v w rest a o is (more n t) = answered a t.2

    onwards : (h bytes : List ℕ) (v : Verdict) → r ≡ Ok v → Order free L h → AfterEntries free L r h bytes → Onwards h bytes
    onwards _ _ v a o (goes_on h bytes x rest is t b) =
        let i = x.instance in
        let w = onwards (h ++ (i ∷ [])) rest v a (steps_push (May free L) h i o t.may) b in
        record {
          entries = x ∷ w.entries;
          steps = i ∷ w.steps;
          is =
              is ∙ ap (λ (bs : List ℕ). entry_bytes x ++ bs) (w.is ∙ ap (λ (n : ℕ). entries_bytes w.entries ++ end_bytes (end_of n)) (longer h i (length w.entries)))
              ∙ sym (append_assoc (entry_bytes x) (entries_bytes w.entries) (end_bytes (end_of (length h + suc (length w.entries)))));
          order = subst (Order free L) (step_assoc h i w.steps) w.order;
          named = (names_taken h x t.names, w.named);
        }
    onwards _ _ v a o (refused h bytes x c b t e) = answered a e
    onwards _ _ v a o (short h bytes e t) = answered a t.2
    onwards _ _ v a o (wrong h bytes e f t n) = answered a n.2
    onwards _ _ v a o (wrong_count h bytes x b n t) = answered a t.2
    onwards _ _ v a o (ends h bytes w rest is t b) = onwards_end h bytes v w rest a o is b

    -- what is answered to entries that name steps, with their end
    abbrev Answered : List ℕ → Type 0
    Answered h = (v : Verdict) × (r ≡ Ok v) × VerdictIs L h v

    answered_end : (h rest : List ℕ) (v : Verdict) → rest ≡ [] → VerdictIs L h v → AfterEnd v (length h + 2) rest r → Answered h
    answered_end h rest v e is (nothing n a) = (v, a, is)
    answered_end h rest v e is (end_short n a t) = absurd (n e)
    answered_end h rest v e is (more n t) = absurd (n (subst EndsEarly (sym e) (omega arith)))

    -- bytes that are an end
    end_only : (h bytes : List ℕ) → bytes ≡ end_bytes (end_of (length h + 0)) → AfterEntries free L r h bytes → Answered h
    end_only _ _ e (goes_on h bytes x rest is t b) = absurd (entry_no_end x (end_of (length h + 0)) rest [] (sym is ∙ e ∙ sym (append-nil (end_bytes (end_of (length h + 0))))))
    end_only _ _ e (refused h bytes x c b t is) = absurd (entry_no_end x (end_of (length h + 0)) b.0 [] (sym b.1 ∙ e ∙ sym (append-nil (end_bytes (end_of (length h + 0))))))
    end_only _ _ e (short h bytes early t) = absurd (not_early bytes (end (end_of (length h + 0))) ([], e ∙ sym (append-nil (end_bytes (end_of (length h + 0))))) early)
    end_only _ _ e (wrong h bytes whole no_entry no_end t) = absurd (no_end (end_of (length h + 0)) ([], e ∙ sym (append-nil (end_bytes (end_of (length h + 0))))))
    end_only _ _ e (wrong_count h bytes x b n t) =
        absurd (n ((one_end x (end_of (length h + 0)) b.0 [] (sym b.1 ∙ e ∙ sym (append-nil (end_bytes (end_of (length h + 0)))))).same ∙ ap end_of (add-zero (length h))))
    end_only _ _ e (ends h bytes v rest is t b) =
        answered_end h rest v (one_end (end_of (length h)) (end_of (length h + 0)) rest [] (sym is ∙ e ∙ sym (append-nil (end_bytes (end_of (length h + 0)))))).rest t b

    -- bytes that begin with an entry that is taken
    entry_first : (h bytes : List ℕ) (y : Entry) (tail : List ℕ) → bytes ≡ entry_bytes y ++ tail → Taken free L h y → AfterEntries free L r h bytes → AfterEntries free L r (h ++ (y.instance ∷ [])) tail
    entry_first _ _ y tail e taken (goes_on h bytes x rest is t b) =
        let o = one_entry x y rest tail (sym is ∙ e) in
        subst₂ (λ (z : Entry) (bs : List ℕ). AfterEntries free L r (h ++ (z.instance ∷ [])) bs) o.same o.rest b
    entry_first _ _ y tail e taken (refused h bytes x c b t is) =
        absurd (not_refused h y c taken (subst (λ (z : Entry). EntryRefused free L h z c) (one_entry x y b.0 tail (sym b.1 ∙ e)).same t))
    entry_first _ _ y tail e taken (short h bytes early t) = absurd (not_early bytes (entry y) (tail, e) early)
    entry_first _ _ y tail e taken (wrong h bytes whole no_entry no_end t) = absurd (no_entry y (tail, e))
    entry_first _ _ y tail e taken (wrong_count h bytes x b n t) = absurd (entry_no_end y x tail b.0 (sym e ∙ b.1))
    entry_first _ _ y tail e taken (ends h bytes v rest is t b) = absurd (entry_no_end y (end_of (length h)) tail rest (sym e ∙ is))

    answers : (xs : List Entry) (w h bytes : List ℕ) → bytes ≡ entries_bytes xs ++ end_bytes (end_of (length h + length xs)) → Order free L (h ++ w) → NamesEach xs (actions_after L h w) → AfterEntries free L r h bytes → Answered (h ++ w)
    answers [] [] h bytes e o n a = subst Answered (sym (append-nil h)) (end_only h bytes e a)
    answers [] (i ∷ w) h bytes e o n a = absurd n
    answers (y ∷ ys) [] h bytes e o n a = absurd n
    answers (y ∷ ys) (i ∷ w) h bytes e o n a =
        let j = y.instance in
        let t = taken_named h i y (o h i w refl) n.0 in
        let tail = entries_bytes ys ++ end_bytes (end_of (length (h ++ (j ∷ [])) + length ys)) in
        let is : bytes ≡ entry_bytes y ++ tail =
        e ∙ append_assoc (entry_bytes y) (entries_bytes ys) (end_bytes (end_of (length h + suc (length ys))))
        ∙ ap (λ (m : ℕ). entry_bytes y ++ (entries_bytes ys ++ end_bytes (end_of m))) (sym (longer h j (length ys))) in
        let path : (h ++ (j ∷ [])) ++ w ≡ h ++ (i ∷ w) = step_assoc h j w ∙ ap (λ (k : ℕ). h ++ (k ∷ w)) (sym t.0) in
        subst Answered path
        (answers ys w (h ++ (j ∷ [])) tail refl (subst (Order free L) (sym path) o) (subst (λ (k : ℕ). NamesEach ys (actions_after L (h ++ (k ∷ [])) w)) t.0 n.1) (entry_first h bytes y tail is t.1 a))

  pub exactly : Exactly L
  exactly = every_sound_chart L sound

  -- a verdict on an order is full exactly where the process reached may terminate
  pub verdict_full : (h : List ℕ) (q : Process) (v : Verdict) → Order free L h → Runs (chart L) (actions L h) q → VerdictIs L h v → v ≡ full ↔ MayTerminate q
  verdict_full h q full o runs is =
      (λ e. exactly.full_terminates h q (record { order = o; done = λ i. let a = is i in let b = order_within free L sound h o i in omega arith }) runs, λ t. refl)
  verdict_full h q part o runs is =
      (λ e. absurd (let z : ◌≡◌ {A = ℕ} 0 1 = cc in omega arith), λ t. absurd (is (λ i. let d = (exactly.terminates_full h q o runs t).done i in omega arith)))

  pub as_annex_b : (bytes : List ℕ) (r : Result Verdict Refusal) → LogAnswered free L bytes r → AsAnnexB L bytes r
  as_annex_b bytes r a = record { only = only bytes r a; every = every bytes r a }
    where
      only : (bytes : List ℕ) (r : Result Verdict Refusal) → LogAnswered free L bytes r → (v : Verdict) → r ≡ Ok v → (xs : List Entry) × (t : List Action) × (q : Process) × Allowed L bytes xs t q
      only bytes r (cut_short e t) v is = answered is t.2
      only bytes r (wrong_record e n t) v is = answered is t.2
      only bytes r (other_chart x b n t) v is = answered is t.2
      only bytes r (begins rest b a) v is =
          let w = onwards r [] rest v is (steps_none (May free L)) a in
          let q = exactly.orders_are_steps w.steps w.order in (
            w.entries,
            actions L w.steps,
            q.0,
            record { framed = b ∙ ap (λ (bs : List ℕ). head_bytes (head_of L) ++ bs) (w.is ∙ ap (λ (n : ℕ). entries_bytes w.entries ++ end_bytes (end_of n)) (zero-add (length w.entries))); named = w.named; runs = q.1 },
          )

      every : (bytes : List ℕ) (r : Result Verdict Refusal) → LogAnswered free L bytes r → (xs : List Entry) (t : List Action) (q : Process) → Allowed L bytes xs t q → (v : Verdict) × (r ≡ Ok v) × (v ≡ full ↔ MayTerminate q)
      every bytes r (cut_short e t) xs ts q x = absurd (not_early bytes (head (head_of L)) (entries_bytes xs ++ end_bytes (end_of (length xs)), x.framed) e)
      every bytes r (wrong_record e n t) xs ts q x = absurd (n (head_of L) (entries_bytes xs ++ end_bytes (end_of (length xs)), x.framed))
      every bytes r (other_chart y b n t) xs ts q x = absurd (n (one_head y (head_of L) b.0 (entries_bytes xs ++ end_bytes (end_of (length xs))) (sym b.1 ∙ x.framed)).same)
      every bytes r (begins rest b a) xs ts q x =
          let h = exactly.steps_are_orders ts q x.runs in
          let left = (one_head (head_of L) (head_of L) rest (entries_bytes xs ++ end_bytes (end_of (length xs))) (sym b ∙ x.framed)).rest in
          let y = answers r xs h.0 [] rest (left ∙ ap (λ (n : ℕ). entries_bytes xs ++ end_bytes (end_of n)) (sym (zero-add (length xs)))) h.1 (subst (NamesEach xs) (sym h.2) x.named) a in
          (y.0, y.1, verdict_full h.0 q y.0 h.1 (subst (λ (t : List Action). Runs (chart L) t q) (sym h.2) x.runs) y.2)

-- the answer to a log of a chart without a fault, under the free medium
pub answers_as_annex_b : (t : Option Fault) (M : Carry) (L : List (List Event)) (bytes : List ℕ) (r : Result Verdict Refusal) → Judged t L → LogAnswers t M L bytes r → t ≡ None → M ≡ free → AsAnnexB L bytes r
answers_as_annex_b None M L bytes r sound a e is = as_annex_b L sound bytes r (subst (λ (N : Carry). LogAnswered N L bytes r) is a)
answers_as_annex_b (Some f) M L bytes r sound a e is = absurd (let z : ◌≡◌ {A = ℕ} 0 1 = cc in omega arith)
