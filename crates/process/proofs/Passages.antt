-- The set of the state operator is the set of the messages that are on the way.
use Rattle.std.proofs.Common.{◌≡◌, ℕ, ◌<◌, ◌≤◌, Bool, true, false, cond, not, eqb, ◌⊎◌, List, [], ◌∷◌, ◌++◌, length, sym, refl, ap, ◌∙◌, subst, ap₂, inl, inr, arith}
use Rattle.std.proofs.lemmas.Bool.{cases_eq, cases_lt, cases_Bool, eq-eqb, ne_eqb, eqb-true, eqb-false, or_cases, or_left, or_right, and_parts, and_from, not-true, not_from_false}
use Rattle.charts.specs.declared.parts.Event.{Event}
use Rattle.charts.specs.Events.{event, output, input, action, environment}
use Rattle.charts.specs.Lists.{At, event_of}
use Rattle.charts.specs.Sound.{Sound}
use Rattle.media.specs.Media.{free}
use Rattle.orders.specs.Histories.{pos, Next}
use Rattle.orders.specs.May.{May, alone, sends, takes}
use Rattle.orders.specs.Orders.{Order}
use Rattle.orders.proofs.Positions.{pos_append, pos_step, pos_stay}
use Rattle.orders.proofs.Decided.{at_width, input_after_output}
use Rattle.process.specs.Actions.{Action, out, «in», out_env, in_env, local, instance, between}
use Rattle.process.specs.Processes.{Messages, with_message, without_message}
use Rattle.process.specs.ChartProcess.{action_of}
use Rattle.process.specs.OnTheWay.{OnTheWay, after_action}
use Rattle.process.proofs.Filtering.{admits, passes}

-- the action of an event by the answers to three questions: an output, an input, with the environment
abbrev chosen : Bool → Bool → Bool → ℕ → Event → Action
chosen o n v i e =
    cond o (cond v (out_env i e.number) (out i e.peer e.number))
    (cond n (cond v (in_env i e.number) («in» e.peer i e.number)) (local i e.number))

-- an action is that of its event's instance
pub instance_of_lem : (i : ℕ) (e : Event) → instance (action_of i e) ≡ i
instance_of_lem i e = go (eqb e.kind output) (eqb e.kind input) (eqb e.peer environment)
  where
    go : (o n v : Bool) → instance (chosen o n v i e) ≡ i
    go true n true = refl
    go true n false = refl
    go false true true = refl
    go false true false = refl
    go false false v = refl

module _ (L : List (List Event)) (sound : Sound L) where
  -- the set has exactly the messages that are on the way
  pub record Carried (h : List ℕ) (M : Messages) : Type 0 where
    pub only : (m : ℕ) → M m ≡ true → OnTheWay L h m
    pub every : (m : ℕ) → OnTheWay L h m → M m ≡ true

  -- an event of kind, peer and number
  as_event : (i k : ℕ) (e : Event) (c : ℕ) → e.kind ≡ c → At L i k e → At L i k (event c e.peer e.number)
  as_event i k e c p a = subst (λ (x : ℕ). At L i k (event x e.peer e.number)) p a

  -- an event of a sound chart, by what the state operator makes of it
  data Sort (i : ℕ) (e : Event) : Type 0 where
    sending : e.kind ≡ output → e.peer < length L → action_of i e ≡ out i e.peer e.number → Sort i e
    taking : e.kind ≡ input → e.peer < length L → action_of i e ≡ «in» e.peer i e.number → Sort i e
    apart : (e.kind ≡ action) ⊎ (e.peer ≡ environment) → between (action_of i e) ≡ false → Sort i e

  sort : (i k : ℕ) (e : Event) → At L i k e → Sort i e
  sort i k e a = go (eqb e.kind output) (eqb e.kind input) (eqb e.peer environment) refl refl refl
    where
      peer : (e.kind ≡ output) ⊎ (e.kind ≡ input) → (e.peer ≡ environment → ⊥) → e.peer < length L
      peer m n = elim (sound.message_peers i k e a m) [ inl l ↦ l | inr v ↦ absurd (n v) ]

      go : (o n v : Bool) → eqb e.kind output ≡ o → eqb e.kind input ≡ n → eqb e.peer environment ≡ v → Sort i e
      go true n true p q r = apart (inr (eqb-true e.peer environment r)) (λ t. between (chosen (p t) (q t) (r t) i e))
      go true n false p q r =
          let c = eqb-true e.kind output p in
          sending c (peer (inl c) (eqb-false e.peer environment r)) (λ t. chosen (p t) (q t) (r t) i e)
      go false true true p q r = apart (inr (eqb-true e.peer environment r)) (λ t. between (chosen (p t) (q t) (r t) i e))
      go false true false p q r =
          let c = eqb-true e.kind input q in
          taking c (peer (inr c) (eqb-false e.peer environment r)) (λ t. chosen (p t) (q t) (r t) i e)
      go false false v p q r =
          let k = sound.kinds i k e a in
          let k0 = k.0 in
          let k1 = k.1 in
          let x = eqb-false e.kind output p in
          let y = eqb-false e.kind input q in
          apart (inl (omega arith)) (λ t. between (chosen (p t) (q t) (r t) i e))

  -- an event with an instance is neither an action nor with the environment
  not_apart : (e : Event) (c s n : ℕ) → c ≤ input → s < length L → e ≡ event c s n → (e.kind ≡ action) ⊎ (e.peer ≡ environment) → ⊥
  not_apart e c s n few_kinds l q (inl v) = let k = ap (λ (x : Event). x.kind) q in omega arith
  not_apart e c s n few_kinds l q (inr v) = let p = ap (λ (x : Event). x.peer) q in let few = sound.few_instances in omega arith

  -- a message stays on the way unless its input runs
  stays : (u : List ℕ) (i n : ℕ) (e : Event) → Next L u i e → ((s : ℕ) → s < length L → e ≡ event input s n → ⊥) → OnTheWay L u n → OnTheWay L (u ++ (i ∷ [])) n
  stays u i n e now other w =
      record {
        sender = w.sender;
        place = w.place;
        receiver = w.receiver;
        is_output = w.is_output;
        to_instance = w.to_instance;
        has_run = let r = w.has_run in let p = pos_append u (i ∷ []) w.sender in omega arith;
        input_has_not = λ l a.
            let later = w.input_has_not l a in
            elim (cases_eq i w.receiver) [
              | inl same ↦
                  let moved = pos_step u i in
                  let here = ap (pos u) same in
                  let there = ap (pos (u ++ (i ∷ []))) same in
                  elim (cases_eq l (pos u i)) [
                    | inl at ↦
                        absurd (other w.sender (at_width L sound w.sender w.place (event output w.receiver n) w.is_output)
                        (sym now.is ∙ ap₂ (λ (x k : ℕ). event_of L x k) same (sym at) ∙ a.is))
                    | inr past ↦ omega arith
                  ]
              | inr n ↦ let kept = pos_stay u i w.receiver n in omega arith
            ];
      }

  -- and it was on the way before unless its output has just run
  was : (u : List ℕ) (i n : ℕ) (e : Event) → Next L u i e → ((j : ℕ) → j < length L → e ≡ event output j n → ⊥) → OnTheWay L (u ++ (i ∷ [])) n → OnTheWay L u n
  was u i n e now other w =
      record {
        sender = w.sender;
        place = w.place;
        receiver = w.receiver;
        is_output = w.is_output;
        to_instance = w.to_instance;
        has_run =
            let r = w.has_run in
            elim (cases_eq i w.sender) [
              | inl same ↦
                  let moved = pos_step u i in
                  let here = ap (pos u) same in
                  let there = ap (pos (u ++ (i ∷ []))) same in
                  elim (cases_eq w.place (pos u i)) [
                    | inl at ↦
                        absurd (other w.receiver w.to_instance (sym now.is ∙ ap₂ (λ (x k : ℕ). event_of L x k) same (sym at) ∙ w.is_output.is))
                    | inr past ↦ omega arith
                  ]
              | inr n ↦ let kept = pos_stay u i w.sender n in omega arith
            ];
        input_has_not = λ l a. let later = w.input_has_not l a in let p = pos_append u (i ∷ []) w.receiver in omega arith;
      }

  -- a message whose output has just run is on the way
  sent_now : (u : List ℕ) (i j m : ℕ) → Order free L u → Next L u i (event output j m) → j < length L → OnTheWay L (u ++ (i ∷ [])) m
  sent_now u i j m o now l =
      record {
        sender = i;
        place = pos u i;
        receiver = j;
        is_output = now;
        to_instance = l;
        has_run = let moved = pos_step u i in omega arith;
        input_has_not = λ k a.
            let width = at_width L sound i (pos u i) (event output j m) now in
            let before : k < pos u j → pos u i < pos u i = λ r. input_after_output L sound free u o j i m (pos u i) k a width now r in
            elim (cases_lt k (pos u j)) [
              | inl r ↦ absurd (let x = before r in omega arith)
              | inr late ↦
                  elim (cases_eq i j) [
                    | inl same ↦
                        let moved = pos_step u i in
                        let here = ap (pos u) same in
                        let there = ap (pos (u ++ (i ∷ []))) same in
                        elim (cases_eq k (pos u i)) [
                          | inl at ↦
                              absurd (
                              let q : event output j m ≡ event input i m = sym now.is ∙ ap₂ (λ (x n : ℕ). event_of L x n) same (sym at) ∙ a.is in
                              let c = ap (λ (x : Event). x.kind) q in
                              omega arith)
                          | inr past ↦ omega arith
                        ]
                    | inr n ↦ let kept = pos_stay u i j n in omega arith
                  ]
            ];
      }

  -- an input's message is on the way exactly when its output has run
  input_carried : (u : List ℕ) (i s m : ℕ) → Next L u i (event input s m) → (k : ℕ) → At L s k (event output i m) → k < pos u s → OnTheWay L u m
  input_carried u i s m now k sent ran =
      record {
        sender = s;
        place = k;
        receiver = i;
        is_output = sent;
        to_instance = at_width L sound i (pos u i) (event input s m) now;
        has_run = ran;
        input_has_not = λ l a. let q = (sound.one_input m i (pos u i) s i l s now a).1 in omega arith;
      }

  carried_input : (u : List ℕ) (i s m : ℕ) → Next L u i (event input s m) → s < length L → OnTheWay L u m → May free L u i
  carried_input u i s m now l w =
      let r = sound.inputs_matched m i (pos u i) s now l in
      let q = sound.one_output m w.sender w.place w.receiver s r.0 i w.is_output r.1 in
      let here = ap (pos u) q.0 in
      let there = q.1 in
      let ran = w.has_run in
      takes s m r.0 now l r.1 (omega arith) refl

  -- once its input has run it is not
  taken_now : (u : List ℕ) (i s m : ℕ) → Next L u i (event input s m) → s < length L → OnTheWay L (u ++ (i ∷ [])) m → ⊥
  taken_now u i s m now l w =
      let r = sound.inputs_matched m i (pos u i) s now l in
      let q = sound.one_output m w.sender w.place w.receiver s r.0 i w.is_output r.1 in
      let same : event output w.receiver m ≡ event output i m = sym w.is_output.is ∙ ap₂ (λ (x n : ℕ). event_of L x n) q.0 q.1 ∙ r.1.is in
      let to = ap (λ (x : Event). x.peer) same in
      let a : At L w.receiver (pos u i) (event input w.sender m) =
      subst (λ (x : ℕ). At L x (pos u i) (event input w.sender m)) (sym to) (subst (λ (x : ℕ). At L i (pos u i) (event input x m)) (sym q.0) now) in
      let late = w.input_has_not (pos u i) a in
      let moved = pos_step u i in
      let there = ap (pos (u ++ (i ∷ []))) to in
      omega arith

  -- the set after an output
  sends_carried : (u : List ℕ) (M : Messages) (i j m : ℕ) → Order free L u → Carried u M → Next L u i (event output j m) → j < length L →
      Carried (u ++ (i ∷ [])) (with_message M m)
  sends_carried u M i j m o c now l =
      record {
        only = λ n y.
            elim (or_cases (eqb n m) (M n) y) [
              | inl e ↦ subst (OnTheWay L (u ++ (i ∷ []))) (sym (eqb-true n m e)) (sent_now u i j m o now l)
              | inr e ↦ stays u i n (event output j m) now (λ s _ q. let k = ap (λ (x : Event). x.kind) q in omega arith) (c.only n e)
            ];
        every = λ n w.
            elim (cases_eq n m) [
              | inl e ↦ or_left (eqb n m) (M n) (eq-eqb n m e)
              | inr e ↦ or_right (eqb n m) (M n) (c.every n (was u i n (event output j m) now (λ k _ q. e (sym (ap (λ (x : Event). x.number) q))) w))
            ];
      }

  -- the set after an input
  takes_carried : (u : List ℕ) (M : Messages) (i s m : ℕ) → Carried u M → Next L u i (event input s m) → s < length L →
      Carried (u ++ (i ∷ [])) (without_message M m)
  takes_carried u M i s m c now l =
      record {
        only = λ n y.
            let p = and_parts (not (eqb n m)) (M n) y in
            let other = eqb-false n m (not-true (eqb n m) p.0) in
            stays u i n (event input s m) now (λ k _ q. other (sym (ap (λ (x : Event). x.number) q))) (c.only n p.1);
        every = λ n w.
            elim (cases_eq n m) [
              | inl e ↦ absurd (taken_now u i s m now l (subst (OnTheWay L (u ++ (i ∷ []))) e w))
              | inr e ↦
                  and_from (not (eqb n m)) (M n) (not_from_false (eqb n m) (ne_eqb n m e))
                  (c.every n (was u i n (event input s m) now (λ k _ q. let z = ap (λ (x : Event). x.kind) q in omega arith) w))
            ];
      }

  -- the set after another event
  apart_carried : (u : List ℕ) (M : Messages) (i : ℕ) (e : Event) → Carried u M → Next L u i e → (e.kind ≡ action) ⊎ (e.peer ≡ environment) →
      Carried (u ++ (i ∷ [])) M
  apart_carried u M i e c now v =
      record {
        only = λ n y. stays u i n e now (λ s l q. not_apart e input s n (omega arith) l q v) (c.only n y);
        every = λ n w. c.every n (was u i n e now (λ j l q. not_apart e output j n (omega arith) l q v) w);
      }

  -- what the state operator admits may run, and its set stays that of the messages on the way
  pub record Ran (u : List ℕ) (i : ℕ) (M : Messages) : Type 0 where
    pub may : May free L u i
    pub carried : Carried (u ++ (i ∷ [])) M

  pub ran : (u : List ℕ) (M : Messages) (i : ℕ) (e : Event) → Order free L u → Carried u M → Next L u i e → admits M (action_of i e) ≡ true →
      Ran u i (after_action M (action_of i e))
  ran u M i e o c now y = go (sort i (pos u i) e now)
    where
      go : Sort i e → Ran u i (after_action M (action_of i e))
      go (sending k l is) =
          let n = as_event i (pos u i) e output k now in
          subst (λ (a : Action). Ran u i (after_action M a)) (sym is)
          (record { may = sends e.peer e.number n l refl; carried = sends_carried u M i e.peer e.number o c n l })
      go (taking k l is) =
          let n = as_event i (pos u i) e input k now in
          let w = c.only e.number (subst (λ (a : Action). admits M a ≡ true) is y) in
          subst (λ (a : Action). Ran u i (after_action M a)) (sym is)
          (record { may = carried_input u i e.peer e.number n l w; carried = takes_carried u M i e.peer e.number c n l })
      go (apart v b) =
          subst (Ran u i) (sym (passes M (action_of i e) b).1) (record { may = alone e now v; carried = apart_carried u M i e c now v })

  -- what may run is admitted
  pub admitted : (u : List ℕ) (M : Messages) (i : ℕ) (e : Event) → Carried u M → Next L u i e → May free L u i → admits M (action_of i e) ≡ true
  admitted u M i e c now may = go (sort i (pos u i) e now)
    where
      -- a message is output once
      unsent : (j m : ℕ) → Next L u i (event output j m) → M m ≡ true → ⊥
      unsent j m n y =
          let w = c.only m y in
          let q = sound.one_output m w.sender w.place w.receiver i (pos u i) j w.is_output n in
          let here = ap (pos u) q.0 in
          let there = q.1 in
          let r = w.has_run in
          omega arith

      taken : (s m : ℕ) → Next L u i (event input s m) → s < length L → May free L u i → OnTheWay L u m
      taken s m n l (alone f o v) = absurd (not_apart f input s m (omega arith) l (sym o.is ∙ n.is) v)
      taken s m n l (sends j p o w y) =
          absurd (let q : event output j p ≡ event input s m = sym o.is ∙ n.is in let k = ap (λ (x : Event). x.kind) q in omega arith)
      taken s m n l (takes t p k o w sent before y) =
          let q : event input t p ≡ event input s m = sym o.is ∙ n.is in
          subst (OnTheWay L u) (ap (λ (x : Event). x.number) q) (input_carried u i t p o k sent before)

      go : Sort i e → admits M (action_of i e) ≡ true
      go (sending k l is) =
          subst (λ (a : Action). admits M a ≡ true) (sym is)
          (elim (cases_Bool (M e.number)) [
            | inl y ↦ absurd (unsent e.peer e.number (as_event i (pos u i) e output k now) y)
            | inr f ↦ not_from_false (M e.number) f
          ])
      go (taking k l is) =
          subst (λ (a : Action). admits M a ≡ true) (sym is)
          (c.every e.number (taken e.peer e.number (as_event i (pos u i) e input k now) l may))
      go (apart v b) = (passes M (action_of i e) b).0
