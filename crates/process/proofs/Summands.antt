-- Summands of a process, and that what the rules allow is derivable.
use Rattle.process.specs.Actions.{Action, out, «in»}
use Rattle.process.specs.Processes.{Messages, with_message, without_message, Process, ε, act, ◌⊕◌, ◌·◌, ◌‖◌, ◌⌊◌, √, filter}
use Rattle.process.specs.Equations.{◌≈◌, A1, A2, A3, A4, A5, A8, A9, TM1, TM4, TM5, TE1, TE4, LM1, LM4, LM6, LM7, LM9}
use Rattle.process.specs.Equations.{reflexive, symmetric, transitive, in_alternative, in_sequence, in_left_merge, in_termination, in_filter}
use Rattle.process.specs.Rules.{Ends, empty, left_ends, right_ends, both_end, merge_ends, test_ends, filter_ends}
use Rattle.process.specs.Rules.{Step, atom, left_steps, right_steps, first_steps, second_steps, merge_left_steps, merge_right_steps, left_merge_steps}
use Rattle.process.specs.Rules.{filter_passes, filter_sends, filter_takes}

-- s is a summand of x
abbrev Summand : Process → Process → Type 0
Summand s x = x ≈ s ⊕ x

in_left : (x y : Process) → Summand x (x ⊕ y)
in_left x y = transitive (in_alternative (symmetric (A3 x)) (reflexive y)) (A2 x x y)

in_right : (x y : Process) → Summand y (x ⊕ y)
in_right x y = transitive (A1 x y) (transitive (in_left y x) (in_alternative (reflexive y) (A1 y x)))

same_summand : (s t x : Process) → s ≈ t → Summand s x → Summand t x
same_summand s t x e p = transitive p (in_alternative e (reflexive x))

-- a summand of a summand
deeper : (s y x : Process) → Summand s y → Summand y x → Summand s x
deeper s y x p q =
    transitive q (transitive (in_alternative p (reflexive x)) (transitive (A2 s y x) (in_alternative (reflexive s) (symmetric q))))

sequence_summand : (s x y : Process) → Summand s x → Summand (s · y) (x · y)
sequence_summand s x y p = transitive (in_sequence p (reflexive y)) (A4 s x y)

left_merge_summand : (s x y : Process) → Summand s x → Summand (s ⌊ y) (x ⌊ y)
left_merge_summand s x y p = transitive (in_left_merge p (reflexive y)) (TM5 s x y)

test_summand : (s x : Process) → Summand s x → Summand (√ s) (√ x)
test_summand s x p = transitive (in_termination p) (TE4 s x)

filter_summand : (M : Messages) (s x : Process) → Summand s x → Summand (filter M s) (filter M x)
filter_summand M s x p = transitive (in_filter M p) (LM9 M s x)

-- an action of the left side of a left merge
merge_summand : (a : Action) (z x y : Process) → Summand (act a · z) x → Summand (act a · (z ‖ y)) (x ⌊ y)
merge_summand a z x y p = same_summand (act a · z ⌊ y) (act a · (z ‖ y)) (x ⌊ y) (TM4 a z y) (left_merge_summand (act a · z) x y p)

-- the three summands of a merge
merge_first : (x y : Process) → Summand (x ⌊ y) (x ‖ y)
merge_first x y =
    transitive (TM1 x y)
    (transitive (deeper (x ⌊ y) (x ⌊ y ⊕ y ⌊ x) (x ⌊ y ⊕ y ⌊ x ⊕ √ x · √ y) (in_left (x ⌊ y) (y ⌊ x)) (in_left (x ⌊ y ⊕ y ⌊ x) (√ x · √ y)))
    (in_alternative (reflexive (x ⌊ y)) (symmetric (TM1 x y))))

merge_second : (x y : Process) → Summand (y ⌊ x) (x ‖ y)
merge_second x y =
    transitive (TM1 x y)
    (transitive (deeper (y ⌊ x) (x ⌊ y ⊕ y ⌊ x) (x ⌊ y ⊕ y ⌊ x ⊕ √ x · √ y) (in_right (x ⌊ y) (y ⌊ x)) (in_left (x ⌊ y ⊕ y ⌊ x) (√ x · √ y)))
    (in_alternative (reflexive (y ⌊ x)) (symmetric (TM1 x y))))

merge_third : (x y : Process) → Summand (√ x · √ y) (x ‖ y)
merge_third x y =
    transitive (TM1 x y)
    (transitive (in_right (x ⌊ y ⊕ y ⌊ x) (√ x · √ y)) (in_alternative (reflexive (√ x · √ y)) (symmetric (TM1 x y))))

-- two summands that are ε give one in their sequence
both_ε : (x y : Process) → Summand ε x → Summand ε y → Summand ε (x · y)
both_ε x y p q = deeper ε y (x · y) q (same_summand (ε · y) y (x · y) (A9 y) (sequence_summand ε x y p))

-- what ends by the rules may terminate
pub ends_summand : (x : Process) → Ends x → x ≈ ε ⊕ x
ends_summand _ empty = symmetric (A3 ε)
ends_summand _ (left_ends {x = x} {y = y} e) = deeper ε x (x ⊕ y) (ends_summand x e) (in_left x y)
ends_summand _ (right_ends {x = x} {y = y} e) = deeper ε y (x ⊕ y) (ends_summand y e) (in_right x y)
ends_summand _ (both_end {x = x} {y = y} e f) = both_ε x y (ends_summand x e) (ends_summand y f)
ends_summand _ (merge_ends {x = x} {y = y} e f) =
    let p = same_summand (√ ε) ε (√ x) TE1 (test_summand ε x (ends_summand x e)) in
    let q = same_summand (√ ε) ε (√ y) TE1 (test_summand ε y (ends_summand y f)) in
    deeper ε (√ x · √ y) (x ‖ y) (both_ε (√ x) (√ y) p q) (merge_third x y)
ends_summand _ (test_ends {x = x} e) = same_summand (√ ε) ε (√ x) TE1 (test_summand ε x (ends_summand x e))
ends_summand _ (filter_ends {M = M} {x = x} n e) = same_summand (filter M ε) ε (filter M x) (LM1 M n) (filter_summand M ε x (ends_summand x e))

-- what the rules allow is derivable
pub step_summand : (x : Process) (a : Action) (z : Process) → Step x a z → x ≈ act a · z ⊕ x
step_summand _ _ _ (atom {a = a}) = transitive (symmetric (A3 (act a))) (in_alternative (symmetric (A8 (act a))) (reflexive (act a)))
step_summand _ _ _ (left_steps {x = x} {y = y} {z = z} {a = a} s) = deeper (act a · z) x (x ⊕ y) (step_summand x a z s) (in_left x y)
step_summand _ _ _ (right_steps {x = x} {y = y} {z = z} {a = a} s) = deeper (act a · z) y (x ⊕ y) (step_summand y a z s) (in_right x y)
step_summand _ _ _ (first_steps {x = x} {y = y} {z = z} {a = a} s) =
    same_summand ((act a · z) · y) (act a · (z · y)) (x · y) (A5 (act a) z y) (sequence_summand (act a · z) x y (step_summand x a z s))
step_summand _ _ _ (second_steps {x = x} {y = y} {z = z} {a = a} e s) =
    deeper (act a · z) y (x · y) (step_summand y a z s) (same_summand (ε · y) y (x · y) (A9 y) (sequence_summand ε x y (ends_summand x e)))
step_summand _ _ _ (merge_left_steps {x = x} {y = y} {z = z} {a = a} s) =
    deeper (act a · (z ‖ y)) (x ⌊ y) (x ‖ y) (merge_summand a z x y (step_summand x a z s)) (merge_first x y)
step_summand _ _ _ (merge_right_steps {x = x} {y = y} {z = z} {a = a} s) =
    deeper (act a · (z ‖ x)) (y ⌊ x) (x ‖ y) (merge_summand a z y x (step_summand y a z s)) (merge_second x y)
step_summand _ _ _ (left_merge_steps {x = x} {y = y} {z = z} {a = a} s) = merge_summand a z x y (step_summand x a z s)
step_summand _ _ _ (filter_passes {M = M} {x = x} {z = z} {a = a} p s) =
    same_summand (filter M (act a · z)) (act a · filter M z) (filter M x) (LM4 M a z p) (filter_summand M (act a · z) x (step_summand x a z s))
step_summand _ _ _ (filter_sends {M = M} {x = x} {z = z} {i = i} {j = j} {m = m} p s) =
    same_summand (filter M (act (out i j m) · z)) (act (out i j m) · filter (with_message M m) z) (filter M x) (LM6 M i j m z p)
    (filter_summand M (act (out i j m) · z) x (step_summand x (out i j m) z s))
step_summand _ _ _ (filter_takes {M = M} {x = x} {z = z} {i = i} {j = j} {m = m} p s) =
    same_summand (filter M (act («in» i j m) · z)) (act («in» i j m) · filter (without_message M m) z) (filter M x) (LM7 M i j m z p)
    (filter_summand M (act («in» i j m) · z) x (step_summand x («in» i j m) z s))
