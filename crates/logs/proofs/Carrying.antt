-- A follower's calls on a run that it alone has changed.
use Rattle.std.proofs.Common.{◌≡◌, ℕ, suc, ◌≤◌, List, [], ◌∷◌, ◌++◌, map, length, Some, None, Option, Ok, Err, Result, IsOk, IfOk, ◌↔◌, sym, refl, ap, ap₂, ◌∙◌, subst, subst₂, arith, length-append}
use Rattle.std.proofs.lemmas.List.{append-nil, map-append, length-map}
use Rattle.charts.specs.declared.parts.Event.{Event}
use Rattle.charts.specs.declared.faults.Fault.{Fault}
use Rattle.charts.specs.Lists.{event_of}
use Rattle.charts.specs.Sound.{Sound}
use Rattle.copies.specs.declared.indexed.Indexed.{Indexed}
use Rattle.copies.specs.Kept.{kept}
use Rattle.copies.proofs.Kept.{kept_sound}
use Rattle.media.specs.Carry.{Carry}
use Rattle.media.specs.Media.{free}
use Rattle.orders.specs.Histories.{pos}
use Rattle.orders.specs.May.{May}
use Rattle.orders.specs.Orders.{Order}
use Rattle.orders.proofs.Growing.{steps_last, steps_none, steps_push}
use Rattle.orders.proofs.Verdicts.{order_length}
use Rattle.process.specs.Actions.{Action}
use Rattle.process.specs.ChartProcess.{action_of, chart, actions_after, actions}
use Rattle.process.specs.Allowed.{Runs}
use Rattle.process.proofs.Passages.{instance_of_lem}
use Rattle.records.specs.declared.parts.Entry.{Entry}
use Rattle.records.specs.declared.parts.Record.TheVariants.{Entry as entry_record, End as end_record}
use Rattle.records.specs.Records.{entry_bytes, end_bytes}
use Rattle.runs.specs.declared.run.Run.{Run}
use Rattle.runs.specs.Runs.{lists_of, StandsAfter}
use Rattle.logs.specs.declared.parts.Cause.{Cause}
use Rattle.logs.specs.declared.parts.Refusal.{Refusal}
use Rattle.logs.specs.declared.parts.Waiting.{Waiting}
use Rattle.logs.specs.declared.parts.Following.{Following}
use Rattle.logs.specs.declared.parts.Closed.{Closed}
use Rattle.logs.specs.declared.parts.Verdict.{Verdict}
use Rattle.logs.specs.Followers.{one_more}
use Rattle.logs.specs.Heads.{HeadAnswers}
use Rattle.logs.specs.Entries.{Taken, EntryRefused}
use Rattle.logs.specs.Events.{TakesEntry, EventRefused, cut_short, wrong_record, entry, EventAnswers}
use Rattle.logs.specs.Ends.{end_of, VerdictIs, EndRefused, cut_short as end_short, wrong_record as no_end, wrong_count, EndAnswers}
use Rattle.logs.specs.AnnexB.{Names, NamesEach}
use Rattle.runs.specs.Tells.{RefusalKeeps}
use Rattle.logs.specs.Carried.{HasTaken, TakesMore, AllowedEntries, VerdictOn, Closes}
use Rattle.logs.proofs.Onward.{not_early}
use Rattle.logs.proofs.Split.{one_entry, one_end}
use Rattle.logs.proofs.Promised.{step_assoc, names_taken, taken_named, not_refused, exactly, verdict_full}

module _ (L : List (List Event)) where
  -- the action of a step of instance i after h
  abbrev next_action : List ℕ → ℕ → Action
  next_action h i = action_of i (event_of L i (pos h i))

  -- one entry more names one action more
  names_push : (xs : List Entry) (u h : List ℕ) (x : Entry) (i : ℕ) → NamesEach xs (actions_after L u h) → Names x (next_action (u ++ h) i) → NamesEach (xs ++ (x ∷ [])) (actions_after L u (h ++ (i ∷ [])))
  names_push [] u [] x i n m = (subst (λ (v : List ℕ). Names x (next_action v i)) (append-nil u) m, tt)
  names_push [] u (j ∷ h) x i n m = absurd n
  names_push (y ∷ ys) u [] x i n m = absurd n
  names_push (y ∷ ys) u (j ∷ h) x i n m = (n.0, names_push ys (u ++ (j ∷ [])) h x i n.1 (subst (λ (v : List ℕ). Names x (next_action v i)) (sym (step_assoc u j h)) m))

  -- the last entry names the last action
  names_last : (xs : List Entry) (u h : List ℕ) (x : Entry) (i : ℕ) → NamesEach xs (actions_after L u h) → NamesEach (xs ++ (x ∷ [])) (actions_after L u (h ++ (i ∷ []))) → Names x (next_action (u ++ h) i)
  names_last [] u [] x i n m = subst (λ (v : List ℕ). Names x (next_action v i)) (sym (append-nil u)) m.0
  names_last [] u (j ∷ h) x i n m = absurd n
  names_last (y ∷ ys) u [] x i n m = absurd n
  names_last (y ∷ ys) u (j ∷ h) x i n m = subst (λ (v : List ℕ). Names x (next_action v i)) (step_assoc u j h) (names_last ys (u ++ (j ∷ [])) h x i n.1 m.1)

  -- the steps are told by the entries that name them
  steps_told : (xs : List Entry) (u h : List ℕ) → NamesEach xs (actions_after L u h) → h ≡ map (λ x. x.instance) xs
  steps_told [] u [] n = refl
  steps_told [] u (j ∷ h) n = absurd n
  steps_told (y ∷ ys) u [] n = absurd n
  steps_told (y ∷ ys) u (j ∷ h) n =
      ap₂ (λ (k : ℕ) (w : List ℕ). k ∷ w) (sym (instance_of_lem j (event_of L j (pos u j))) ∙ n.0.instance_is) (steps_told ys (u ++ (j ∷ [])) h n.1)

  module _ (sound : Sound L) where
    -- an entry after those of an order is allowed exactly where it is taken
    taken_allowed : (h : List ℕ) (xs : List Entry) (x : Entry) → Order free L h → NamesEach xs (actions L h) → Taken free L h x → AllowedEntries L (xs ++ (x ∷ []))
    taken_allowed h xs x o n t =
        let i = x.instance in
        let q = (exactly L sound).orders_are_steps (h ++ (i ∷ [])) (steps_push (May free L) h i o t.may) in
        (actions L (h ++ (i ∷ [])), q.0, names_push xs [] h x i n (names_taken L sound h x t.names), q.1)

    allowed_taken : (h : List ℕ) (xs : List Entry) (x : Entry) → NamesEach xs (actions L h) → AllowedEntries L (xs ++ (x ∷ [])) → Taken free L h x
    allowed_taken h xs x n a =
        let i = x.instance in
        let g = (exactly L sound).steps_are_orders a.0 a.1 a.3 in
        let named = subst (NamesEach (xs ++ (x ∷ []))) (sym g.2) a.2 in
        let same : g.0 ≡ h ++ (i ∷ []) =
        steps_told (xs ++ (x ∷ [])) [] g.0 named ∙ map-append (λ (y : Entry). y.instance) xs (x ∷ []) ∙ ap (λ (w : List ℕ). w ++ (i ∷ [])) (sym (steps_told xs [] h n)) in
        let may = steps_last (May free L) h i (subst (Order free L) same g.1) in
        (taken_named L sound h i x may (names_last xs [] h x i n (subst (λ (w : List ℕ). NamesEach (xs ++ (x ∷ [])) (actions L w)) same named))).1

    -- a verdict on entries is one on the order that they name
    verdict_on : (h : List ℕ) (xs : List Entry) (v : Verdict) → Order free L h → NamesEach xs (actions L h) → VerdictIs L h v → VerdictOn L xs v
    verdict_on h xs v o n is =
        let q = (exactly L sound).orders_are_steps h o in
        record {
          allowed = (actions L h, q.0, n, q.1);
          full = λ t p m runs.
              let g = (exactly L sound).steps_are_orders t p runs in
              let same : g.0 ≡ h = steps_told xs [] g.0 (subst (NamesEach xs) (sym g.2) m) ∙ sym (steps_told xs [] h n) in
              verdict_full L sound h p v o (subst (λ (s : List Action). Runs (chart L) s p) (sym g.2 ∙ ap (actions L) same) runs) is;
        }

    refused_entry : (h : List ℕ) (xs : List Entry) (x : Entry) (bytes : List ℕ) (c : Cause) → NamesEach xs (actions L h) → bytes ≡ entry_bytes x → EventRefused free L h bytes c → AllowedEntries L (xs ++ (x ∷ [])) → ⊥
    refused_entry h xs x bytes c n b (cut_short m early) a = not_early bytes (entry_record x) ([], b ∙ sym (append-nil (entry_bytes x))) early
    refused_entry h xs x bytes c n b (wrong_record m whole none) a = none x b
    refused_entry h xs x bytes c n b (entry y is t) a =
        let o = one_entry y x [] [] (append-nil (entry_bytes y) ∙ sym is ∙ b ∙ sym (append-nil (entry_bytes x))) in
        not_refused L sound h x c (allowed_taken h xs x n a) (subst (λ (z : Entry). EntryRefused free L h z c) o.same t)

    -- the bytes of an entry are taken exactly where it is allowed
    pub event_annex : (M : Carry) (t : Option Fault) (h : List ℕ) (f : Following) (xs : List Entry) (x : Entry) (bytes : List ℕ) (r : Result Following (Following × Refusal)) (Stands : List ℕ → Type 0) →
        Order M L h → NamesEach xs (actions L h) → EventAnswers t M L h f bytes r Stands → t ≡ None → M ≡ free → bytes ≡ entry_bytes x → IsOk r ↔ AllowedEntries L (xs ++ (x ∷ []))
    event_annex M None h f xs x bytes (Ok g) Stands o n a e is b =
        let same = one_entry a.0 x [] [] (append-nil (entry_bytes a.0) ∙ sym a.1 ∙ b ∙ sym (append-nil (entry_bytes x))) in
        let taken = subst₂ (λ (N : Carry) (y : Entry). Taken N L h y) is same.same a.2 in
        (λ k. taken_allowed h xs x (subst (λ (N : Carry). Order N L h) is o) n taken, λ y. refl)
    event_annex M None h f xs x bytes (Err z) Stands o n a e is b =
        (λ k. absurd (let y : ◌≡◌ {A = ℕ} 0 1 = cc in omega arith), λ y. absurd (refused_entry h xs x bytes a.0 n b (subst (λ (N : Carry). EventRefused N L h bytes a.0) is a.2) y))
    event_annex M (Some k) h f xs x bytes r Stands o n a e is b = absurd (let z : ◌≡◌ {A = ℕ} 0 1 = cc in omega arith)

    refused_end : (k : ℕ) (bytes : List ℕ) (c : Cause) → EndRefused k bytes c → bytes ≡ end_bytes (end_of k) → ⊥
    refused_end k bytes c (end_short m early) b = not_early bytes (end_record (end_of k)) ([], b ∙ sym (append-nil (end_bytes (end_of k)))) early
    refused_end k bytes c (no_end m whole none) b = none (end_of k) b
    refused_end k bytes c (wrong_count x m is other) b = other (one_end x (end_of k) [] [] (append-nil (end_bytes x) ∙ sym is ∙ b ∙ sym (append-nil (end_bytes (end_of k))))).same

-- a follower that has taken a head
head_carries : {A : Type 0} (M : Carry) (run : Run A) (w : Waiting) (bytes : List ℕ) (f : Following) → StandsAfter run [] → HeadAnswers run.board.copy.fault (lists_of run) w bytes (Ok f) → HasTaken M run [] f
head_carries M run w bytes f s a = started run.board.copy.fault a
  where
    started : (t : Option Fault) → HeadAnswers t (lists_of run) w bytes (Ok f) → HasTaken M run [] f
    started None a = record { history = []; stands = s; order = steps_none (May M (lists_of run)); named = tt; index = ap (λ (g : Following). g.index) a.1; entries = ap (λ (g : Following). g.entries) a.1 }
    started (Some t) a = absurd (let z : ◌≡◌ {A = ℕ} 0 1 = cc in omega arith)

pub head_begins : {A : Type 0} (M : Carry) (run : Run A) (w : Waiting) (bytes : List ℕ) (r : Result Following (Waiting × Refusal)) → StandsAfter run [] → HeadAnswers run.board.copy.fault (lists_of run) w bytes r → IfOk r (λ f. HasTaken M run [] f)
head_begins M run w bytes (Ok f) s a = head_carries M run w bytes f s a
head_begins M run w bytes (Err z) s a = tt

-- one that takes an entry more
pub takes_more : {A : Type 0} (M : Carry) (run after : Run A) (xs : List Entry) (f g : Following) (x : Entry) (has : HasTaken M run xs f) → after.board.copy ≡ run.board.copy →
    Taken M (lists_of run) has.history x → g ≡ one_more f → StandsAfter after (has.history ++ (x.instance ∷ [])) → HasTaken M after (xs ++ (x ∷ [])) g
takes_more M run after xs f g x has same t is s =
    let L = lists_of run in
    let h = has.history in
    let i = x.instance in
    let h' = h ++ (i ∷ []) in
    let sound = kept_sound run.board.copy in
    let told = steps_told L xs [] h has.named in
    let short : length xs ≤ 4096 = omega (arith, order_length M L sound h has.order, sound.few_events, ap length told, length-map xs (λ (y : Entry). y.instance)) in
    let long : length (xs ++ (x ∷ [])) ≡ suc (length xs) = omega (arith, length-append xs (x ∷ [])) in
    let a = ap (λ (k : Following). k.index) is in
    let b = ap (λ (k : Following). k.entries) is in
    let a' = has.index in
    let b' = has.entries in
    record {
      history = h';
      stands = s;
      order = subst (λ (y : Indexed). Order M (kept y) h') (sym same) (steps_push (May M L) h i has.order t.may);
      named = subst (λ (y : Indexed). NamesEach (xs ++ (x ∷ [])) (actions (kept y) h')) (sym same) (names_push L xs [] h x i has.named (names_taken L sound h x t.names));
      index = omega arith;
      entries = omega arith;
    }

-- by the bytes of an entry
pub entry_carries : {A : Type 0} (M N : Carry) (run after : Run A) (xs : List Entry) (f : Following) (x : Entry) (bytes : List ℕ) (r : Result Following (Following × Refusal)) (has : HasTaken M run xs f) →
    N ≡ M → after.board.copy ≡ run.board.copy → bytes ≡ entry_bytes x → TakesEntry M (lists_of run) has.history f x r (StandsAfter after) → RefusalKeeps r run after → TakesMore N after xs bytes r
entry_carries M N run after xs f x bytes (Ok g) has m same b a k =
    (x, b, subst (λ (K : Carry). HasTaken K after (xs ++ (x ∷ [])) g) (sym m) (takes_more M run after xs f g x has same a.0 a.1 a.2))
entry_carries {A} M N run after xs f x bytes (Err z) has m same b a k =
    subst (λ (K : Carry). HasTaken K after xs z.0) (sym m)
    (subst (λ (y : Run A). HasTaken M y xs z.0) (sym k) (subst (HasTaken M run xs) (sym (ap (λ (y : Following × Refusal). y.0) a.1)) has))

-- one that takes the end
pub end_closes : {A : Type 0} (M : Carry) (run : Run A) (f : Following) (xs : List Entry) (bytes : List ℕ) (r : Result (Closed × Verdict) (Following × Refusal)) (t : Option Fault) (has : HasTaken M run xs f) →
    EndAnswers t (lists_of run) has.history f bytes r → t ≡ None → M ≡ free → Closes run xs f bytes r
end_closes M run f xs bytes (Ok a) None has y e is =
    let L = lists_of run in (
      y.0 ∙ ap (λ (m : ℕ). end_bytes (end_of m)) has.entries,
      verdict_on L (kept_sound run.board.copy) has.history xs a.1 (subst (λ (N : Carry). Order N L has.history) is has.order) has.named y.2,
    )
end_closes M run f xs bytes (Err z) None has y e is =
    (λ b. refused_end (lists_of run) (kept_sound run.board.copy) f.entries bytes y.0 y.2 (b ∙ ap (λ (m : ℕ). end_bytes (end_of m)) (sym has.entries)), ap (λ (w : Following × Refusal). w.0) y.1)
end_closes M run f xs bytes r (Some w) has y e is = absurd (let z : ◌≡◌ {A = ℕ} 0 1 = cc in omega arith)
