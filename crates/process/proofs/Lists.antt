-- The steps of the merge of what is left of a chart's lists.
use Rattle.std.proofs.Common.{◌≡◌, ℕ, zero, suc, ◌+◌, ◌<◌, ◌≤◌, List, [], ◌∷◌, ◌++◌, length, get_or, drop, sym, refl, subst, ap₂, inl, inr, arith}
use Rattle.std.proofs.lemmas.List.{drop_more, drop_all}
use Rattle.std.proofs.lemmas.Bool.{cases_lt}
use Rattle.charts.specs.declared.parts.Event.{Event}
use Rattle.charts.specs.Events.{no_event}
use Rattle.orders.specs.Histories.{pos}
use Rattle.orders.proofs.Positions.{pos_step, pos_stay}
use Rattle.process.specs.Actions.{Action}
use Rattle.process.specs.Processes.{Process, ε, ◌·◌, ◌‖◌}
use Rattle.process.specs.Equations.{◌≈◌, A9, reflexive, transitive, in_merge}
use Rattle.process.specs.Rules.{Ends, empty, merge_ends, Step, atom, first_steps, merge_left_steps, merge_right_steps}
use Rattle.process.specs.ChartProcess.{action_of, sequence, merge}
use Rattle.process.specs.Reached.{left_from}
use Rattle.process.proofs.Following.{no_step_ε, no_end_prefix, prefix_step}
use Rattle.process.proofs.Merging.{Headed, head_ε, head_action, merge_commutes, merge_headed}

sequence_headed : (i : ℕ) (es : List Event) → Headed (sequence i es)
sequence_headed i [] = (ε, head_ε, reflexive ε)
sequence_headed i (e ∷ es) = (sequence i (e ∷ es), head_action (action_of i e) (sequence i es), reflexive (sequence i (e ∷ es)))

pub instances_headed : (i : ℕ) (K : List (List Event)) → Headed (merge i K)
instances_headed i [] = (ε, head_ε, reflexive ε)
instances_headed i (es ∷ K) = merge_headed (sequence i es) (merge (suc i) K) (sequence_headed i es) (instances_headed (suc i) K)

-- an instance's first step is its next action
sequence_step : (i k : ℕ) (es : List Event) (a : Action) (z : Process) → Step (sequence i (drop k es)) a z →
    (k < length es) × (a ≡ action_of i (get_or es k no_event)) × (z ≈ sequence i (drop (k + 1) es))
sequence_step i k es a z s =
    elim (cases_lt k (length es)) [
      | inl l ↦
          let r = prefix_step (action_of i (get_or es k no_event)) (sequence i (drop (k + 1) es)) a z
          (subst (λ (xs : List Event). Step (sequence i xs) a z) (drop_more es k no_event l) s) in
          (l, r.0, subst (λ (p : Process). p ≈ sequence i (drop (k + 1) es)) (sym r.1) (A9 (sequence i (drop (k + 1) es))))
      | inr l ↦ absurd (no_step_ε a z (subst (λ (xs : List Event). Step (sequence i xs) a z) (drop_all k es l) s))
    ]

-- a step of an earlier instance leaves the later lists
left_stays : (h : List ℕ) (x i : ℕ) (K : List (List Event)) → x < i → left_from (h ++ (x ∷ [])) i K ≡ left_from h i K
left_stays h x i [] l = refl
left_stays h x i (es ∷ K) l =
    ap₂ (λ (k : ℕ) (M : List (List Event)). drop k es ∷ M) (pos_stay h x i (λ e. omega arith)) (left_stays h x (suc i) K (omega arith))

-- a step of the merge, from instance i on, of what is left after h: some instance makes its next action
pub record Moved (h : List ℕ) (i : ℕ) (K : List (List Event)) (a : Action) (z : Process) : Type 0 where
  pub who : ℕ
  pub place : ℕ
  pub counted : who ≡ i + place
  pub within : pos h who < length (get_or K place [])
  pub is : a ≡ action_of who (get_or (get_or K place []) (pos h who) no_event)
  pub equal : z ≈ merge i (left_from (h ++ (who ∷ [])) i K)

moved_first : (h : List ℕ) (i : ℕ) (es : List Event) (K : List (List Event)) (a : Action) (z : Process) → Step (sequence i (drop (pos h i) es)) a z →
    Moved h i (es ∷ K) a (z ‖ merge (suc i) (left_from h (suc i) K))
moved_first h i es K a z s =
    let r = sequence_step i (pos h i) es a z s in
    record {
      who = i;
      place = 0;
      counted = omega arith;
      within = r.0;
      is = r.1;
      equal =
          subst (λ (k : ℕ). z ‖ merge (suc i) (left_from h (suc i) K) ≈ sequence i (drop k es) ‖ merge (suc i) (left_from (h ++ (i ∷ [])) (suc i) K)) (sym (pos_step h i))
          (subst (λ (M : List (List Event)). z ‖ merge (suc i) (left_from h (suc i) K) ≈ sequence i (drop (pos h i + 1) es) ‖ merge (suc i) M) (sym (left_stays h i (suc i) K (omega arith)))
          (in_merge r.2 (reflexive (merge (suc i) (left_from h (suc i) K)))));
    }

moved_later : (h : List ℕ) (i : ℕ) (es : List Event) (K : List (List Event)) (a : Action) (z : Process) → Moved h (suc i) K a z →
    Moved h i (es ∷ K) a (z ‖ sequence i (drop (pos h i) es))
moved_later h i es K a z r =
    let c = r.counted in
    let later = left_from (h ++ (r.who ∷ [])) (suc i) K in
    let mine = sequence i (drop (pos h i) es) in
    record {
      who = r.who;
      place = suc r.place;
      counted = omega arith;
      within = r.within;
      is = r.is;
      equal =
          subst (λ (k : ℕ). z ‖ mine ≈ sequence i (drop k es) ‖ merge (suc i) later) (sym (pos_stay h r.who i (λ e. omega arith)))
          (transitive (in_merge r.equal (reflexive mine))
          (merge_commutes (merge (suc i) later) mine (instances_headed (suc i) later) (sequence_headed i (drop (pos h i) es))));
    }

pub moved : (h : List ℕ) (i : ℕ) (K : List (List Event)) (a : Action) (z : Process) → Step (merge i (left_from h i K)) a z → Moved h i K a z
moved h i [] a z s = absurd (no_step_ε a z s)
moved h i (es ∷ K) a _ (merge_left_steps {z = z} s) = moved_first h i es K a z s
moved h i (es ∷ K) a _ (merge_right_steps {z = z} s) = moved_later h i es K a z (moved h (suc i) K a z s)

-- an instance with an event left can make its next action
pub moves : (h : List ℕ) (i : ℕ) (K : List (List Event)) (who place : ℕ) → who ≡ i + place → pos h who < length (get_or K place []) →
    (z : Process) × Step (merge i (left_from h i K)) (action_of who (get_or (get_or K place []) (pos h who) no_event)) z
moves h i [] who place c l = absurd (omega arith)
moves h i (es ∷ K) who zero c l =
    subst (λ (x : ℕ). (z : Process) × Step (merge i (left_from h i (es ∷ K))) (action_of x (get_or es (pos h x) no_event)) z) i_who
    (first (subst (λ (x : ℕ). pos h x < length es) (sym i_who) l))
  where
    i_who : i ≡ who
    i_who = omega arith

    first : pos h i < length es → (z : Process) × Step (merge i (left_from h i (es ∷ K))) (action_of i (get_or es (pos h i) no_event)) z
    first m =
        subst (λ (xs : List Event). (z : Process) × Step (sequence i xs ‖ merge (suc i) (left_from h (suc i) K)) (action_of i (get_or es (pos h i) no_event)) z)
        (sym (drop_more es (pos h i) no_event m)) ((ε · sequence i (drop (pos h i + 1) es)) ‖ merge (suc i) (left_from h (suc i) K), merge_left_steps (first_steps atom))
moves h i (es ∷ K) who (suc place) c l =
    let r = moves h (suc i) K who place (omega arith) l in
    (r.0 ‖ sequence i (drop (pos h i) es), merge_right_steps r.1)

-- a sequence ends exactly when nothing is left
sequence_done : (i k : ℕ) (es : List Event) → Ends (sequence i (drop k es)) → length es ≤ k
sequence_done i k es e =
    elim (cases_lt k (length es)) [
      | inl l ↦
          absurd (no_end_prefix (action_of i (get_or es k no_event)) (sequence i (drop (k + 1) es))
          (subst (λ (xs : List Event). Ends (sequence i xs)) (drop_more es k no_event l) e))
      | inr l ↦ l
    ]

-- the merge ends exactly when nothing is left anywhere
pub merge_done : (h : List ℕ) (i : ℕ) (K : List (List Event)) → Ends (merge i (left_from h i K)) → (who place : ℕ) → who ≡ i + place →
    length (get_or K place []) ≤ pos h who
merge_done h i [] e who place c = omega arith
merge_done h i (es ∷ K) (merge_ends e f) who zero c =
    subst (λ (x : ℕ). length es ≤ pos h x) i_who (sequence_done i (pos h i) es e)
  where
    i_who : i ≡ who
    i_who = omega arith
merge_done h i (es ∷ K) (merge_ends e f) who (suc place) c = merge_done h (suc i) K f who place (omega arith)

pub done_merge : (h : List ℕ) (i : ℕ) (K : List (List Event)) → ((who place : ℕ) → who ≡ i + place → length (get_or K place []) ≤ pos h who) →
    Ends (merge i (left_from h i K))
done_merge h i [] d = empty
done_merge h i (es ∷ K) d =
    merge_ends (subst (λ (xs : List Event). Ends (sequence i xs)) (sym (drop_all (pos h i) es (d i 0 (omega arith)))) empty)
    (done_merge h (suc i) K (λ who place c. d who (suc place) (omega arith)))
