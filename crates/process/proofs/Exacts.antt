-- What the equations allow a chart's process is what the orders under the free medium are.
use Rattle.std.proofs.Common.{◌≡◌, ℕ, suc, ◌+◌, ◌<◌, ◌≤◌, true, false, List, [], ◌∷◌, ◌++◌, map, sym, refl, ap, ◌∙◌, subst, ap₂, inl, inr, arith}
use Rattle.std.proofs.lemmas.List.{append_assoc, append-nil}
use Rattle.std.proofs.lemmas.Bool.{cases_Bool, both_ways}
use Rattle.charts.specs.declared.parts.Event.{Event}
use Rattle.charts.specs.Lists.{count_of, event_of}
use Rattle.charts.specs.Sound.{Sound}
use Rattle.media.specs.Media.{free}
use Rattle.orders.specs.Histories.{pos, Next}
use Rattle.orders.specs.May.{May}
use Rattle.orders.specs.Orders.{Order, Full}
use Rattle.orders.proofs.Positions.{by_steps}
use Rattle.orders.proofs.Growing.{steps_front, steps_last, steps_none, steps_push}
use Rattle.orders.proofs.Decided.{may_unfinished}
use Rattle.orders.proofs.Verdicts.{order_full}
use Rattle.process.specs.Actions.{Action, instance}
use Rattle.process.specs.Processes.{Messages, Empty, none, Process, filter}
use Rattle.process.specs.Equations.{◌≈◌, reflexive, symmetric, transitive, in_filter}
use Rattle.process.specs.Allowed.{Allows, Runs}
use Rattle.process.specs.Rules.{Ends, filter_ends}
use Rattle.process.specs.ChartProcess.{action_of, merge, chart, actions_after, actions}
use Rattle.process.specs.OnTheWay.{after_action, after_actions}
use Rattle.process.specs.Reached.{left_from, left, Reached}
use Rattle.process.specs.Exactly.{Exactly, EverySoundChart}
use Rattle.process.proofs.Bisimulation.{follows}
use Rattle.process.proofs.Summands.{step_summand, ends_summand}
use Rattle.process.proofs.Agreeing.{allowed_step, terminating_ends}
use Rattle.process.proofs.Deadlocks.{ended_is_empty, stuck_is_deadlock}
use Rattle.process.proofs.Lists.{moved, moves, merge_done, done_merge}
use Rattle.process.proofs.Filtering.{admits, passed, filter_lets}
use Rattle.process.proofs.Passages.{instance_of_lem, Carried, ran, admitted}

-- nothing has run
none_left : (i : ℕ) (K : List (List Event)) → left_from [] i K ≡ K
none_left i [] = refl
none_left i (es ∷ K) = ap (λ (M : List (List Event)). es ∷ M) (none_left (suc i) K)

-- a history is told by its actions
told : (L : List (List Event)) (u h : List ℕ) → map instance (actions_after L u h) ≡ h
told L u [] = refl
told L u (i ∷ h) = ap₂ (λ (x : ℕ) (xs : List ℕ). x ∷ xs) (instance_of_lem i (event_of L i (pos u i))) (told L (u ++ (i ∷ [])) h)

same_history : (L : List (List Event)) (u h g : List ℕ) → actions_after L u h ≡ actions_after L u g → h ≡ g
same_history L u h g e = sym (told L u h) ∙ ap (map instance) e ∙ told L u g

-- one event more is one action more
actions_push : (L : List (List Event)) (w u : List ℕ) (i : ℕ) →
    actions_after L w (u ++ (i ∷ [])) ≡ actions_after L w u ++ (action_of i (event_of L i (pos (w ++ u) i)) ∷ [])
actions_push L w [] i = ap (λ (v : List ℕ). action_of i (event_of L i (pos v i)) ∷ []) (sym (append-nil w))
actions_push L w (x ∷ u) i =
    ap (λ (t : List Action). action_of x (event_of L x (pos w x)) ∷ t)
    (actions_push L (w ++ (x ∷ [])) u i ∙
    ap (λ (v : List ℕ). actions_after L (w ++ (x ∷ [])) u ++ (action_of i (event_of L i (pos v i)) ∷ [])) (append_assoc w (x ∷ []) u))

set_push : (M : Messages) (t : List Action) (a : Action) → after_actions M (t ++ (a ∷ [])) ≡ after_action (after_actions M t) a
set_push M [] a = refl
set_push M (b ∷ t) a = set_push (after_action M b) t a

-- derivably equal processes are reached alike
same_reached : (L : List (List Event)) (h : List ℕ) (p q : Process) → p ≈ q → Reached L h q → Reached L h p
same_reached L h p q e r = record { set = r.set; only = r.only; every = r.every; equal = transitive e r.equal }

module _ (L : List (List Event)) (sound : Sound L) where
  start : Reached L [] (chart L)
  start =
      record {
        set = none;
        only = λ m y. absurd (both_ways false refl y);
        every = λ m w. absurd (let r = w.has_run in omega arith);
        equal = subst (λ (K : List (List Event)). chart L ≈ filter none (merge 0 K)) (sym (none_left 0 L)) (reflexive (chart L));
      }

  carried : (h : List ℕ) (p : Process) (r : Reached L h p) → Carried L sound h r.set
  carried h p r = record { only = r.only; every = r.every }

  -- a step after an order: an instance that may run makes its next action
  record Stepped (u : List ℕ) (a : Action) (z : Process) : Type 0 where
    who : ℕ
    may : May free L u who
    is : a ≡ action_of who (event_of L who (pos u who))
    reached : Reached L (u ++ (who ∷ [])) z

  stepped : (u : List ℕ) (p : Process) (a : Action) (z : Process) → Order free L u → Reached L u p → Allows p a z → Stepped u a z
  stepped u p a z o r e =
      let s = allowed_step p z a e in
      let t = (follows p (filter r.set (merge 0 (left L u))) r.equal).0.steps a s.0 s.1 in
      let f = passed r.set (merge 0 (left L u)) a t.0 t.1 in
      let m = moved u 0 L a f.inner f.steps in
      let c = m.counted in
      let here : m.place ≡ m.who = omega arith in
      let now : Next L u m.who (event_of L m.who (pos u m.who)) =
      record { within = subst (λ (x : ℕ). pos u m.who < count_of L x) here m.within; is = refl } in
      let is = subst (λ (x : ℕ). a ≡ action_of m.who (event_of L x (pos u m.who))) here m.is in
      let after = ran L sound u r.set m.who (event_of L m.who (pos u m.who)) o (carried u p r) now (subst (λ (b : Action). admits r.set b ≡ true) is f.admitted) in
      let all = subst (λ (b : Action). Carried L sound (u ++ (m.who ∷ [])) (after_action r.set b)) (sym is) after.carried in
      record {
        who = m.who;
        may = after.may;
        is = is;
        reached =
            record {
              set = after_action r.set a;
              only = all.only;
              every = all.every;
              equal =
                  transitive (symmetric s.2)
                  (transitive t.2
                  (subst (λ (q : Process). q ≈ filter (after_action r.set a) (merge 0 (left L (u ++ (m.who ∷ []))))) f.is (in_filter (after_action r.set a) m.equal)));
            };
      }

  -- an instance that may run makes its next action
  can_step : (u : List ℕ) (p : Process) (i : ℕ) → Reached L u p → May free L u i → (z : Process) × Allows p (action_of i (event_of L i (pos u i))) z
  can_step u p i r may =
      let e = event_of L i (pos u i) in
      let l = may_unfinished L sound free u i may in
      let m = moves u 0 L i i (omega arith) l in
      let y = admitted L sound u r.set i e (carried u p r) (record { within = l; is = refl }) may in
      let s = filter_lets r.set (merge 0 (left L u)) (action_of i e) m.0 m.1 y in
      let t = (follows p (filter r.set (merge 0 (left L u))) r.equal).1.steps (action_of i e) (filter (after_action r.set (action_of i e)) m.0) s in
      (t.0, step_summand p (action_of i e) t.0 t.1)

  record Went (u : List ℕ) (t : List Action) (q : Process) : Type 0 where
    way : List ℕ
    order : Order free L (u ++ way)
    is : actions_after L u way ≡ t
    reached : Reached L (u ++ way) q

  -- steps are an order
  went : (t : List Action) (u : List ℕ) (p q : Process) → Order free L u → Reached L u p → Runs p t q → Went u t q
  went [] u p q o r e =
      record {
        way = [];
        order = subst (Order free L) (sym (append-nil u)) o;
        is = refl;
        reached = subst (λ (h : List ℕ). Reached L h q) (sym (append-nil u)) (same_reached L u q p (symmetric e) r);
      }
  went (a ∷ t) u p q o r (z, e, rest) =
      let s = stepped u p a z o r e in
      let w = went t (u ++ (s.who ∷ [])) z q (steps_push (May free L) u s.who o s.may) s.reached rest in
      record {
        way = s.who ∷ w.way;
        order = subst (Order free L) (append_assoc u (s.who ∷ []) w.way) w.order;
        is = ap₂ (λ (b : Action) (bs : List Action). b ∷ bs) (sym s.is) w.is;
        reached = subst (λ (h : List ℕ). Reached L h q) (append_assoc u (s.who ∷ []) w.way) w.reached;
      }

  -- an order is steps
  can_go : (h u : List ℕ) (p : Process) → Order free L (u ++ h) → Reached L u p → (q : Process) × Runs p (actions_after L u h) q
  can_go [] u p o r = (p, reflexive p)
  can_go (i ∷ h) u p o r =
      let now = steps_front (May free L) u (i ∷ h) o in
      let s = can_step u p i r (o u i h refl) in
      let a = action_of i (event_of L i (pos u i)) in
      let x = stepped u p a s.0 now r s.1 in
      let same : x.who ≡ i = sym (instance_of_lem x.who (event_of L x.who (pos u x.who))) ∙ sym (ap instance x.is) ∙ instance_of_lem i (event_of L i (pos u i)) in
      let next = subst (λ (k : ℕ). Reached L (u ++ (k ∷ [])) s.0) same x.reached in
      let g = can_go h (u ++ (i ∷ [])) s.0 (subst (Order free L) (sym (append_assoc u (i ∷ []) h)) o) next in
      (g.0, (s.0, s.1, g.1))

  -- what is reached ends exactly when the order is full
  ends_full : (h : List ℕ) (p : Process) → Order free L h → Reached L h p → Ends p → Full free L h
  ends_full h p o r e = go ((follows p (filter r.set (merge 0 (left L h))) r.equal).0.ends e)
    where
      go : Ends (filter r.set (merge 0 (left L h))) → Full free L h
      go (filter_ends n d) = order_full free L sound h o (λ i l. merge_done h 0 L d i i (omega arith))

  filter_full : (h : List ℕ) (M : Messages) → Carried L sound h M → Full free L h → Ends (filter M (merge 0 (left L h)))
  filter_full h M c f = filter_ends nothing_left (done_merge h 0 L done)
    where
      nothing_left : Empty M
      nothing_left m =
          elim (cases_Bool (M m)) [
            | inr no_message ↦ no_message
            | inl y ↦
                absurd (
                let w = c.only m y in
                let q = sound.outputs_matched m w.sender w.place w.receiver w.is_output w.to_instance in
                let late = w.input_has_not q.0 q.1 in
                let inside = q.1.within in
                let d = f.done w.receiver in
                omega arith)
          ]

      done : (who place : ℕ) → who ≡ 0 + place → count_of L place ≤ pos h who
      done who place e =
          let same : who ≡ place = omega arith in
          let d = f.done place in
          subst (λ (x : ℕ). count_of L place ≤ pos h x) (sym same) (omega arith)

  full_ends : (h : List ℕ) (p : Process) → Full free L h → Reached L h p → Ends p
  full_ends h p f r = (follows p (filter r.set (merge 0 (left L h))) r.equal).1.ends (filter_full h r.set (carried h p r) f)

  -- the set after the actions of an order
  set_carried : (h : List ℕ) → Order free L h → Carried L sound h (after_actions none (actions L h))
  set_carried h =
      by_steps (λ x. Order free L x → Carried L sound x (after_actions none (actions L x)))
      (λ o. record { only = λ m y. absurd (both_ways false refl y); every = λ m w. absurd (let r = w.has_run in omega arith) })
      (λ u i before o.
      let so_far = steps_front (May free L) u (i ∷ []) o in
      let c = before so_far in
      let may = steps_last (May free L) u i o in
      let e = event_of L i (pos u i) in
      let now : Next L u i e = record { within = may_unfinished L sound free u i may; is = refl } in
      let M = after_actions none (actions L u) in
      let after = ran L sound u M i e so_far c now (admitted L sound u M i e c now may) in
      subst (Carried L sound (u ++ (i ∷ []))) (sym (ap (after_actions none) (actions_push L [] u i) ∙ set_push none (actions L u) (action_of i e))) after.carried)
      h

  reached_by : (h : List ℕ) (q : Process) → Order free L h → Runs (chart L) (actions L h) q → Reached L h q
  reached_by h q o e =
      let w = went (actions L h) [] (chart L) q (steps_none (May free L)) start e in
      subst (λ (x : List ℕ). Reached L x q) (same_history L [] w.way h w.is) w.reached

  exactly : Exactly L
  exactly =
      record {
        steps_are_orders = λ t q e. let w = went t [] (chart L) q (steps_none (May free L)) start e in (w.way, w.order, w.is);
        orders_are_steps = λ h o. can_go h [] (chart L) o start;
        only_on_the_way = λ h m o y. (set_carried h o).only m y;
        all_on_the_way = λ h m o w. (set_carried h o).every m w;
        reached = reached_by;
        terminates_full = λ h q o e d. ends_full h q o (reached_by h q o e) (terminating_ends q d);
        full_terminates = λ h q f e. ends_summand q (full_ends h q f (reached_by h q f.order e));
        full_is_empty = λ h q f e.
            let r = reached_by h q f.order e in
            transitive r.equal (ended_is_empty r.set 0 (left L h) (filter_full h r.set (carried h q r) f));
        stuck_is_deadlock = λ h q o ended part e.
            let r = reached_by h q o e in
            let x = filter r.set (merge 0 (left L h)) in
            let f = (follows q x r.equal).1 in
            transitive r.equal
            (stuck_is_deadlock r.set 0 (left L h)
            (λ a z s. let t = f.steps a z s in let y = stepped h q a t.0 o r (step_summand q a t.0 t.1) in ended y.who y.may)
            (λ d. part (ends_full h q o r (f.ends d))));
        no_other = λ h q r a o e s.
            let x = stepped h q a r o (reached_by h q o e) s in
            let same : instance a ≡ x.who = ap instance x.is ∙ instance_of_lem x.who (event_of L x.who (pos h x.who)) in (
              subst (May free L h) (sym same) x.may,
              subst (λ (i : ℕ). (f : Event) × Next L h i f × (a ≡ action_of i f)) (sym same)
                  (event_of L x.who (pos h x.who), record { within = may_unfinished L sound free h x.who x.may; is = refl }, x.is),
            );
      }

pub every_sound_chart : EverySoundChart
every_sound_chart L sound = exactly L sound
