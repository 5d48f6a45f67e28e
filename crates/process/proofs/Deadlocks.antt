-- Under the state operator, a merge of instances that neither makes a step nor ends is deadlock, and one with nothing left is empty.
use Rattle.std.proofs.Common.{ℕ, suc, List, [], ◌∷◌, refl, inl, inr}
use Rattle.std.proofs.lemmas.Bool.{cases_Bool}
use Rattle.charts.specs.declared.parts.Event.{Event}
use Rattle.process.specs.Actions.{Action, out, «in», out_env, in_env, local}
use Rattle.process.specs.Processes.{Messages, Process, ε, δ, act, ◌·◌, filter}
use Rattle.process.specs.Equations.{◌≈◌, A3, LM1, LM2, LM3, LM5, LM8, LM9, reflexive, transitive, in_alternative, in_merge, in_filter}
use Rattle.process.specs.Rules.{Ends, empty, left_ends, right_ends, merge_ends, filter_ends}
use Rattle.process.specs.Rules.{Step, atom, left_steps, right_steps, first_steps, filter_passes, filter_sends, filter_takes}
use Rattle.process.specs.ChartProcess.{action_of, sequence, merge}
use Rattle.process.proofs.Following.{no_end_prefix}
use Rattle.process.proofs.TableB10.{alike_LM9}
use Rattle.process.proofs.Bisimulation.{follows}
use Rattle.process.proofs.Merging.{Head, head_ε, head_δ, head_action, head_sum}
use Rattle.process.proofs.Lists.{instances_headed}
use Rattle.process.proofs.Interleavings.{empty_empty}

-- the process makes no step
abbrev Still : Process → Type 0
Still x = (a : Action) (z : Process) → Step x a z → ⊥

action_stuck : (M : Messages) (a : Action) (x : Process) → Still (filter M (act a · x)) → filter M (act a · x) ≈ δ
action_stuck M (out i j m) x s =
    elim (cases_Bool (M m)) [ inl y ↦ LM5 M i j m x y | inr f ↦ absurd (s (out i j m) _ (filter_sends f (first_steps atom))) ]
action_stuck M («in» i j m) x s =
    elim (cases_Bool (M m)) [ inl y ↦ absurd (s («in» i j m) _ (filter_takes y (first_steps atom))) | inr f ↦ LM8 M i j m x f ]
action_stuck M (out_env i m) x s = absurd (s (out_env i m) _ (filter_passes refl (first_steps atom)))
action_stuck M (in_env j m) x s = absurd (s (in_env j m) _ (filter_passes refl (first_steps atom)))
action_stuck M (local i n) x s = absurd (s (local i n) _ (filter_passes refl (first_steps atom)))

head_stuck : (M : Messages) (w : Process) → Head w → Still (filter M w) → (Ends (filter M w) → ⊥) → filter M w ≈ δ
head_stuck M _ head_ε s n = LM2 M (λ e. n (filter_ends e empty))
head_stuck M _ head_δ s n = LM3 M
head_stuck M _ (head_action a x) s n = action_stuck M a x s
head_stuck M _ (head_sum {x = x} {y = y} p q) s n =
    transitive (LM9 M x y)
    (transitive
    (in_alternative
    (head_stuck M x p (λ a z t. let r = (alike_LM9 M x y).1.steps a z (left_steps t) in s a r.0 r.1) (λ e. n ((alike_LM9 M x y).1.ends (left_ends e))))
    (head_stuck M y q (λ a z t. let r = (alike_LM9 M x y).1.steps a z (right_steps t) in s a r.0 r.1) (λ e. n ((alike_LM9 M x y).1.ends (right_ends e)))))
    (A3 δ))

pub stuck_is_deadlock : (M : Messages) (i : ℕ) (K : List (List Event)) → ((a : Action) (z : Process) → Step (filter M (merge i K)) a z → ⊥) →
    (Ends (filter M (merge i K)) → ⊥) →
    filter M (merge i K) ≈ δ
stuck_is_deadlock M i K s n =
    let h = instances_headed i K in
    let e = in_filter M h.2 in
    let f = (follows (filter M (merge i K)) (filter M h.0) e).1 in
    transitive e (head_stuck M h.0 h.1 (λ a z t. let r = f.steps a z t in s a r.0 r.1) (λ d. n (f.ends d)))

-- an instance that ends has nothing left
sequence_ended : (i : ℕ) (es : List Event) → Ends (sequence i es) → sequence i es ≈ ε
sequence_ended i [] e = reflexive ε
sequence_ended i (x ∷ es) e = absurd (no_end_prefix (action_of i x) (sequence i es) e)

merge_ended : (i : ℕ) (K : List (List Event)) → Ends (merge i K) → merge i K ≈ ε
merge_ended i [] e = reflexive ε
merge_ended i (es ∷ K) (merge_ends e f) = transitive (in_merge (sequence_ended i es e) (merge_ended (suc i) K f)) empty_empty

pub ended_is_empty : (M : Messages) (i : ℕ) (K : List (List Event)) → Ends (filter M (merge i K)) → filter M (merge i K) ≈ ε
ended_is_empty M i K (filter_ends n e) = transitive (in_filter M (merge_ended i K e)) (LM1 M n)
