-- The two sides of each equation of Table B.10 make the same steps and end alike.
use Rattle.std.proofs.Common.{◌≡◌, ℕ, true, false, sym, refl, ap, ◌∙◌, arith}
use Rattle.std.proofs.lemmas.Bool.{both_ways}
use Rattle.process.specs.Actions.{Action, out, «in», out_env, in_env, local, between}
use Rattle.process.specs.Processes.{Messages, Empty, with_message, without_message, Process, ε, δ, act, ◌⊕◌, ◌·◌, filter}
use Rattle.process.specs.Equations.{◌≈◌, A9}
use Rattle.process.specs.Equations.{reflexive, symmetric, transitive, in_filter}
use Rattle.process.specs.Rules.{Ends, left_ends, right_ends, filter_ends}
use Rattle.process.specs.Rules.{Step, atom, left_steps, right_steps, first_steps, second_steps}
use Rattle.process.specs.Rules.{filter_passes, filter_sends, filter_takes}
use Rattle.process.proofs.Following.{EndsToo, StepsToo, Alike, quiet, endless, nothing, no_step_ε, no_step_δ, no_end_act, no_end_prefix, prefix_step}

-- which of the five an action is
abbrev tag : Action → ℕ
tag (out i j m) = 0
tag («in» i j m) = 1
tag (out_env i m) = 2
tag (in_env j m) = 3
tag (local i n) = 4

-- the message of an output or input
abbrev message : Action → ℕ
message (out i j m) = m
message («in» i j m) = m
message (out_env i m) = m
message (in_env j m) = m
message (local i n) = n

no_end_filter : (M : Messages) (a : Action) (x : Process) → Ends (filter M (act a · x)) → ⊥
no_end_filter M a x (filter_ends n e) = no_end_prefix a x e

no_step_filter_ε : (M : Messages) (a : Action) (z : Process) → Step (filter M ε) a z → ⊥
no_step_filter_ε M a z (filter_passes {z = u} n s) = no_step_ε a u s
no_step_filter_ε M a z (filter_sends {z = u} {i = i} {j = j} {m = m} n s) = no_step_ε (out i j m) u s
no_step_filter_ε M a z (filter_takes {z = u} {i = i} {j = j} {m = m} n s) = no_step_ε («in» i j m) u s

no_step_filter_δ : (M : Messages) (a : Action) (z : Process) → Step (filter M δ) a z → ⊥
no_step_filter_δ M a z (filter_passes {z = u} n s) = no_step_δ a u s
no_step_filter_δ M a z (filter_sends {z = u} {i = i} {j = j} {m = m} n s) = no_step_δ (out i j m) u s
no_step_filter_δ M a z (filter_takes {z = u} {i = i} {j = j} {m = m} n s) = no_step_δ («in» i j m) u s

ends_LM1 : (M : Messages) → EndsToo (filter M ε) ε
ends_LM1 M (filter_ends n e) = e

ends_LM2 : (M : Messages) → (Empty M → ⊥) → EndsToo (filter M ε) δ
ends_LM2 M n (filter_ends e f) = absurd (n e)

ends_LM3 : (M : Messages) → EndsToo (filter M δ) δ
ends_LM3 M (filter_ends n e) = e

-- an action after ε, inside the operator and outside
pass : (M : Messages) (x : Process) → filter M (ε · x) ≈ ε · filter M x
pass M x = transitive (in_filter M (A9 x)) (symmetric (A9 (filter M x)))

steps_LM4 : (M : Messages) (a : Action) (x : Process) → between a ≡ false → StepsToo (filter M (act a · x)) (act a · filter M x)
steps_LM4 M a x n b w (filter_passes p (first_steps atom)) = (ε · filter M x, first_steps atom, pass M x)
steps_LM4 M a x n b w (filter_passes p (second_steps e s)) = absurd (no_end_act a e)
steps_LM4 M a x n b w (filter_sends {z = z} {i = i} {j = j} {m = m} p s) =
    absurd (both_ways true (ap between (prefix_step a x (out i j m) z s).0 ∙ n) refl)
steps_LM4 M a x n b w (filter_takes {z = z} {i = i} {j = j} {m = m} p s) =
    absurd (both_ways true (ap between (prefix_step a x («in» i j m) z s).0 ∙ n) refl)

steps_LM4_back : (M : Messages) (a : Action) (x : Process) → between a ≡ false → StepsToo (act a · filter M x) (filter M (act a · x))
steps_LM4_back M a x n b w (first_steps atom) = (filter M (ε · x), filter_passes n (first_steps atom), symmetric (pass M x))
steps_LM4_back M a x n b w (second_steps e s) = absurd (no_end_act a e)

steps_LM5 : (M : Messages) (i j m : ℕ) (x : Process) → M m ≡ true → StepsToo (filter M (act (out i j m) · x)) δ
steps_LM5 M i j m x n b w (filter_passes {z = z} p s) = absurd (both_ways true (sym (ap between (prefix_step (out i j m) x b z s).0) ∙ p) refl)
steps_LM5 M i j m x n b w (filter_sends {z = z} {i = k} {j = l} {m = q} p s) =
    absurd (both_ways (M m) (sym (ap (λ (c : Action). M (message c)) (prefix_step (out i j m) x (out k l q) z s).0) ∙ p) n)
steps_LM5 M i j m x n b w (filter_takes {z = z} {i = k} {j = l} {m = q} p s) =
    absurd (let t = ap tag (prefix_step (out i j m) x («in» k l q) z s).0 in omega arith)

steps_LM6 : (M : Messages) (i j m : ℕ) (x : Process) → M m ≡ false → StepsToo (filter M (act (out i j m) · x)) (act (out i j m) · filter (with_message M m) x)
steps_LM6 M i j m x n b w (filter_passes {z = z} p s) = absurd (both_ways true (sym (ap between (prefix_step (out i j m) x b z s).0) ∙ p) refl)
steps_LM6 M i j m x n b w (filter_sends p (first_steps atom)) = (ε · filter (with_message M m) x, first_steps atom, pass (with_message M m) x)
steps_LM6 M i j m x n b w (filter_sends p (second_steps e s)) = absurd (no_end_act (out i j m) e)
steps_LM6 M i j m x n b w (filter_takes {z = z} {i = k} {j = l} {m = q} p s) =
    absurd (let t = ap tag (prefix_step (out i j m) x («in» k l q) z s).0 in omega arith)

steps_LM6_back : (M : Messages) (i j m : ℕ) (x : Process) → M m ≡ false →
    StepsToo (act (out i j m) · filter (with_message M m) x) (filter M (act (out i j m) · x))
steps_LM6_back M i j m x n b w (first_steps atom) =
    (filter (with_message M m) (ε · x), filter_sends n (first_steps atom), symmetric (pass (with_message M m) x))
steps_LM6_back M i j m x n b w (second_steps e s) = absurd (no_end_act (out i j m) e)

steps_LM7 : (M : Messages) (i j m : ℕ) (x : Process) → M m ≡ true →
    StepsToo (filter M (act («in» i j m) · x)) (act («in» i j m) · filter (without_message M m) x)
steps_LM7 M i j m x n b w (filter_passes {z = z} p s) = absurd (both_ways true (sym (ap between (prefix_step («in» i j m) x b z s).0) ∙ p) refl)
steps_LM7 M i j m x n b w (filter_sends {z = z} {i = k} {j = l} {m = q} p s) =
    absurd (let t = ap tag (prefix_step («in» i j m) x (out k l q) z s).0 in omega arith)
steps_LM7 M i j m x n b w (filter_takes p (first_steps atom)) = (ε · filter (without_message M m) x, first_steps atom, pass (without_message M m) x)
steps_LM7 M i j m x n b w (filter_takes p (second_steps e s)) = absurd (no_end_act («in» i j m) e)

steps_LM7_back : (M : Messages) (i j m : ℕ) (x : Process) → M m ≡ true →
    StepsToo (act («in» i j m) · filter (without_message M m) x) (filter M (act («in» i j m) · x))
steps_LM7_back M i j m x n b w (first_steps atom) =
    (filter (without_message M m) (ε · x), filter_takes n (first_steps atom), symmetric (pass (without_message M m) x))
steps_LM7_back M i j m x n b w (second_steps e s) = absurd (no_end_act («in» i j m) e)

steps_LM8 : (M : Messages) (i j m : ℕ) (x : Process) → M m ≡ false → StepsToo (filter M (act («in» i j m) · x)) δ
steps_LM8 M i j m x n b w (filter_passes {z = z} p s) = absurd (both_ways true (sym (ap between (prefix_step («in» i j m) x b z s).0) ∙ p) refl)
steps_LM8 M i j m x n b w (filter_sends {z = z} {i = k} {j = l} {m = q} p s) =
    absurd (let t = ap tag (prefix_step («in» i j m) x (out k l q) z s).0 in omega arith)
steps_LM8 M i j m x n b w (filter_takes {z = z} {i = k} {j = l} {m = q} p s) =
    absurd (both_ways (M m) n (sym (ap (λ (c : Action). M (message c)) (prefix_step («in» i j m) x («in» k l q) z s).0) ∙ p))

ends_LM9 : (M : Messages) (x y : Process) → EndsToo (filter M (x ⊕ y)) (filter M x ⊕ filter M y)
ends_LM9 M x y (filter_ends n (left_ends e)) = left_ends (filter_ends n e)
ends_LM9 M x y (filter_ends n (right_ends e)) = right_ends (filter_ends n e)

ends_LM9_back : (M : Messages) (x y : Process) → EndsToo (filter M x ⊕ filter M y) (filter M (x ⊕ y))
ends_LM9_back M x y (left_ends (filter_ends n e)) = filter_ends n (left_ends e)
ends_LM9_back M x y (right_ends (filter_ends n e)) = filter_ends n (right_ends e)

steps_LM9 : (M : Messages) (x y : Process) → StepsToo (filter M (x ⊕ y)) (filter M x ⊕ filter M y)
steps_LM9 M x y a w (filter_passes p (left_steps s)) = (w, left_steps (filter_passes p s), reflexive w)
steps_LM9 M x y a w (filter_passes p (right_steps s)) = (w, right_steps (filter_passes p s), reflexive w)
steps_LM9 M x y a w (filter_sends p (left_steps s)) = (w, left_steps (filter_sends p s), reflexive w)
steps_LM9 M x y a w (filter_sends p (right_steps s)) = (w, right_steps (filter_sends p s), reflexive w)
steps_LM9 M x y a w (filter_takes p (left_steps s)) = (w, left_steps (filter_takes p s), reflexive w)
steps_LM9 M x y a w (filter_takes p (right_steps s)) = (w, right_steps (filter_takes p s), reflexive w)

steps_LM9_back : (M : Messages) (x y : Process) → StepsToo (filter M x ⊕ filter M y) (filter M (x ⊕ y))
steps_LM9_back M x y a w (left_steps (filter_passes p s)) = (w, filter_passes p (left_steps s), reflexive w)
steps_LM9_back M x y a w (left_steps (filter_sends p s)) = (w, filter_sends p (left_steps s), reflexive w)
steps_LM9_back M x y a w (left_steps (filter_takes p s)) = (w, filter_takes p (left_steps s), reflexive w)
steps_LM9_back M x y a w (right_steps (filter_passes p s)) = (w, filter_passes p (right_steps s), reflexive w)
steps_LM9_back M x y a w (right_steps (filter_sends p s)) = (w, filter_sends p (right_steps s), reflexive w)
steps_LM9_back M x y a w (right_steps (filter_takes p s)) = (w, filter_takes p (right_steps s), reflexive w)

-- each equation of Table B.10
pub alike_LM1 : (M : Messages) → Empty M → Alike (filter M ε) ε
alike_LM1 M n = (quiet (filter M ε) ε (ends_LM1 M) (no_step_filter_ε M), quiet ε (filter M ε) (λ e. filter_ends n e) no_step_ε)

pub alike_LM2 : (M : Messages) → (Empty M → ⊥) → Alike (filter M ε) δ
alike_LM2 M n = (quiet (filter M ε) δ (ends_LM2 M n) (no_step_filter_ε M), nothing (filter M ε))

pub alike_LM3 : (M : Messages) → Alike (filter M δ) δ
alike_LM3 M = (quiet (filter M δ) δ (ends_LM3 M) (no_step_filter_δ M), nothing (filter M δ))

pub alike_LM4 : (M : Messages) (a : Action) (x : Process) → between a ≡ false → Alike (filter M (act a · x)) (act a · filter M x)
alike_LM4 M a x n = (
  endless (filter M (act a · x)) (act a · filter M x) (no_end_filter M a x) (steps_LM4 M a x n),
  endless (act a · filter M x) (filter M (act a · x)) (no_end_prefix a (filter M x)) (steps_LM4_back M a x n),
)

pub alike_LM5 : (M : Messages) (i j m : ℕ) (x : Process) → M m ≡ true → Alike (filter M (act (out i j m) · x)) δ
alike_LM5 M i j m x n =
    (endless (filter M (act (out i j m) · x)) δ (no_end_filter M (out i j m) x) (steps_LM5 M i j m x n), nothing (filter M (act (out i j m) · x)))

pub alike_LM6 : (M : Messages) (i j m : ℕ) (x : Process) → M m ≡ false → Alike (filter M (act (out i j m) · x)) (act (out i j m) · filter (with_message M m) x)
alike_LM6 M i j m x n = (
  endless (filter M (act (out i j m) · x)) (act (out i j m) · filter (with_message M m) x) (no_end_filter M (out i j m) x) (steps_LM6 M i j m x n),
  endless (act (out i j m) · filter (with_message M m) x) (filter M (act (out i j m) · x)) (no_end_prefix (out i j m) (filter (with_message M m) x)) (steps_LM6_back M i j m x n),
)

pub alike_LM7 : (M : Messages) (i j m : ℕ) (x : Process) → M m ≡ true →
    Alike (filter M (act («in» i j m) · x)) (act («in» i j m) · filter (without_message M m) x)
alike_LM7 M i j m x n = (
  endless (filter M (act («in» i j m) · x)) (act («in» i j m) · filter (without_message M m) x) (no_end_filter M («in» i j m) x) (steps_LM7 M i j m x n),
  endless (act («in» i j m) · filter (without_message M m) x) (filter M (act («in» i j m) · x)) (no_end_prefix («in» i j m) (filter (without_message M m) x)) (steps_LM7_back M i j m x n),
)

pub alike_LM8 : (M : Messages) (i j m : ℕ) (x : Process) → M m ≡ false → Alike (filter M (act («in» i j m) · x)) δ
alike_LM8 M i j m x n =
    (endless (filter M (act («in» i j m) · x)) δ (no_end_filter M («in» i j m) x) (steps_LM8 M i j m x n), nothing (filter M (act («in» i j m) · x)))

pub alike_LM9 : (M : Messages) (x y : Process) → Alike (filter M (x ⊕ y)) (filter M x ⊕ filter M y)
alike_LM9 M x y =
    (record { ends = ends_LM9 M x y; steps = steps_LM9 M x y }, record { ends = ends_LM9_back M x y; steps = steps_LM9_back M x y })
