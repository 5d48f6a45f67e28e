-- The two sides of each equation of Table B.7 make the same steps and end alike.
use Rattle.process.specs.Actions.{Action}
use Rattle.process.specs.Processes.{Process, ε, δ, act, ◌⊕◌, ◌·◌, ◌‖◌, ◌⌊◌, √}
use Rattle.process.specs.Equations.{A5, A8, A9}
use Rattle.process.specs.Equations.{reflexive, symmetric, transitive, in_merge}
use Rattle.process.specs.Rules.{empty, left_ends, right_ends, both_end, merge_ends, test_ends}
use Rattle.process.specs.Rules.{atom, left_steps, right_steps, first_steps, second_steps, merge_left_steps, merge_right_steps, left_merge_steps}
use Rattle.process.proofs.Following.{EndsToo, StepsToo, Alike, quiet, endless, nothing, no_step_ε, no_step_δ, no_step_√, no_end_δ, no_end_act}
use Rattle.process.proofs.Following.{no_end_⌊, no_end_prefix}

-- an alternative is commutative, associative and idempotent, and deadlock is none
ends_A1 : (x y : Process) → EndsToo (x ⊕ y) (y ⊕ x)
ends_A1 x y (left_ends e) = right_ends e
ends_A1 x y (right_ends e) = left_ends e

steps_A1 : (x y : Process) → StepsToo (x ⊕ y) (y ⊕ x)
steps_A1 x y a z (left_steps s) = (z, right_steps s, reflexive z)
steps_A1 x y a z (right_steps s) = (z, left_steps s, reflexive z)

ends_A2 : (x y z : Process) → EndsToo ((x ⊕ y) ⊕ z) (x ⊕ (y ⊕ z))
ends_A2 x y z (left_ends (left_ends e)) = left_ends e
ends_A2 x y z (left_ends (right_ends e)) = right_ends (left_ends e)
ends_A2 x y z (right_ends e) = right_ends (right_ends e)

ends_A2_back : (x y z : Process) → EndsToo (x ⊕ (y ⊕ z)) ((x ⊕ y) ⊕ z)
ends_A2_back x y z (left_ends e) = left_ends (left_ends e)
ends_A2_back x y z (right_ends (left_ends e)) = left_ends (right_ends e)
ends_A2_back x y z (right_ends (right_ends e)) = right_ends e

steps_A2 : (x y z : Process) → StepsToo ((x ⊕ y) ⊕ z) (x ⊕ (y ⊕ z))
steps_A2 x y z a w (left_steps (left_steps s)) = (w, left_steps s, reflexive w)
steps_A2 x y z a w (left_steps (right_steps s)) = (w, right_steps (left_steps s), reflexive w)
steps_A2 x y z a w (right_steps s) = (w, right_steps (right_steps s), reflexive w)

steps_A2_back : (x y z : Process) → StepsToo (x ⊕ (y ⊕ z)) ((x ⊕ y) ⊕ z)
steps_A2_back x y z a w (left_steps s) = (w, left_steps (left_steps s), reflexive w)
steps_A2_back x y z a w (right_steps (left_steps s)) = (w, left_steps (right_steps s), reflexive w)
steps_A2_back x y z a w (right_steps (right_steps s)) = (w, right_steps s, reflexive w)

ends_A3 : (x : Process) → EndsToo (x ⊕ x) x
ends_A3 x (left_ends e) = e
ends_A3 x (right_ends e) = e

steps_A3 : (x : Process) → StepsToo (x ⊕ x) x
steps_A3 x a z (left_steps s) = (z, s, reflexive z)
steps_A3 x a z (right_steps s) = (z, s, reflexive z)

ends_A6 : (x : Process) → EndsToo (x ⊕ δ) x
ends_A6 x (left_ends e) = e
ends_A6 x (right_ends e) = absurd (no_end_δ e)

steps_A6 : (x : Process) → StepsToo (x ⊕ δ) x
steps_A6 x a z (left_steps s) = (z, s, reflexive z)
steps_A6 x a z (right_steps s) = absurd (no_step_δ a z s)

-- sequences
ends_A4 : (x y z : Process) → EndsToo ((x ⊕ y) · z) (x · z ⊕ y · z)
ends_A4 x y z (both_end (left_ends e) f) = left_ends (both_end e f)
ends_A4 x y z (both_end (right_ends e) f) = right_ends (both_end e f)

ends_A4_back : (x y z : Process) → EndsToo (x · z ⊕ y · z) ((x ⊕ y) · z)
ends_A4_back x y z (left_ends (both_end e f)) = both_end (left_ends e) f
ends_A4_back x y z (right_ends (both_end e f)) = both_end (right_ends e) f

steps_A4 : (x y z : Process) → StepsToo ((x ⊕ y) · z) (x · z ⊕ y · z)
steps_A4 x y z a w (first_steps (left_steps s)) = (w, left_steps (first_steps s), reflexive w)
steps_A4 x y z a w (first_steps (right_steps s)) = (w, right_steps (first_steps s), reflexive w)
steps_A4 x y z a w (second_steps (left_ends e) s) = (w, left_steps (second_steps e s), reflexive w)
steps_A4 x y z a w (second_steps (right_ends e) s) = (w, right_steps (second_steps e s), reflexive w)

steps_A4_back : (x y z : Process) → StepsToo (x · z ⊕ y · z) ((x ⊕ y) · z)
steps_A4_back x y z a w (left_steps (first_steps s)) = (w, first_steps (left_steps s), reflexive w)
steps_A4_back x y z a w (left_steps (second_steps e s)) = (w, second_steps (left_ends e) s, reflexive w)
steps_A4_back x y z a w (right_steps (first_steps s)) = (w, first_steps (right_steps s), reflexive w)
steps_A4_back x y z a w (right_steps (second_steps e s)) = (w, second_steps (right_ends e) s, reflexive w)

ends_A5 : (x y z : Process) → EndsToo ((x · y) · z) (x · (y · z))
ends_A5 x y z (both_end (both_end e f) g) = both_end e (both_end f g)

ends_A5_back : (x y z : Process) → EndsToo (x · (y · z)) ((x · y) · z)
ends_A5_back x y z (both_end e (both_end f g)) = both_end (both_end e f) g

steps_A5 : (x y z : Process) → StepsToo ((x · y) · z) (x · (y · z))
steps_A5 x y z a w (first_steps (first_steps {z = u} s)) = (u · (y · z), first_steps s, A5 u y z)
steps_A5 x y z a w (first_steps (second_steps e s)) = (w, second_steps e (first_steps s), reflexive w)
steps_A5 x y z a w (second_steps (both_end e f) s) = (w, second_steps e (second_steps f s), reflexive w)

steps_A5_back : (x y z : Process) → StepsToo (x · (y · z)) ((x · y) · z)
steps_A5_back x y z a w (first_steps {z = u} s) = ((u · y) · z, first_steps (first_steps s), symmetric (A5 u y z))
steps_A5_back x y z a w (second_steps e (first_steps s)) = (w, first_steps (second_steps e s), reflexive w)
steps_A5_back x y z a w (second_steps e (second_steps f s)) = (w, second_steps (both_end e f) s, reflexive w)

ends_A7 : (x : Process) → EndsToo (δ · x) δ
ends_A7 x (both_end e f) = e

steps_A7 : (x : Process) → StepsToo (δ · x) δ
steps_A7 x a z (first_steps {z = u} s) = absurd (no_step_δ a u s)
steps_A7 x a z (second_steps e s) = absurd (no_end_δ e)

ends_A8 : (x : Process) → EndsToo (x · ε) x
ends_A8 x (both_end e f) = e

steps_A8 : (x : Process) → StepsToo (x · ε) x
steps_A8 x a w (first_steps {z = u} s) = (u, s, A8 u)
steps_A8 x a w (second_steps e s) = absurd (no_step_ε a w s)

ends_A9 : (x : Process) → EndsToo (ε · x) x
ends_A9 x (both_end e f) = f

steps_A9 : (x : Process) → StepsToo (ε · x) x
steps_A9 x a w (first_steps {z = u} s) = absurd (no_step_ε a u s)
steps_A9 x a w (second_steps e s) = (w, s, reflexive w)

-- merges
ends_TM1 : (x y : Process) → EndsToo (x ‖ y) (x ⌊ y ⊕ y ⌊ x ⊕ √ x · √ y)
ends_TM1 x y (merge_ends e f) = right_ends (both_end (test_ends e) (test_ends f))

ends_TM1_back : (x y : Process) → EndsToo (x ⌊ y ⊕ y ⌊ x ⊕ √ x · √ y) (x ‖ y)
ends_TM1_back x y (left_ends (left_ends e)) = absurd (no_end_⌊ x y e)
ends_TM1_back x y (left_ends (right_ends e)) = absurd (no_end_⌊ y x e)
ends_TM1_back x y (right_ends (both_end (test_ends e) (test_ends f))) = merge_ends e f

steps_TM1 : (x y : Process) → StepsToo (x ‖ y) (x ⌊ y ⊕ y ⌊ x ⊕ √ x · √ y)
steps_TM1 x y a w (merge_left_steps s) = (w, left_steps (left_steps (left_merge_steps s)), reflexive w)
steps_TM1 x y a w (merge_right_steps s) = (w, left_steps (right_steps (left_merge_steps s)), reflexive w)

steps_TM1_back : (x y : Process) → StepsToo (x ⌊ y ⊕ y ⌊ x ⊕ √ x · √ y) (x ‖ y)
steps_TM1_back x y a w (left_steps (left_steps (left_merge_steps s))) = (w, merge_left_steps s, reflexive w)
steps_TM1_back x y a w (left_steps (right_steps (left_merge_steps s))) = (w, merge_right_steps s, reflexive w)
steps_TM1_back x y a w (right_steps (first_steps {z = u} s)) = absurd (no_step_√ x a u s)
steps_TM1_back x y a w (right_steps (second_steps e s)) = absurd (no_step_√ y a w s)

steps_TM2 : (x : Process) → StepsToo (ε ⌊ x) δ
steps_TM2 x a w (left_merge_steps {z = u} s) = absurd (no_step_ε a u s)

steps_TM3 : (x : Process) → StepsToo (δ ⌊ x) δ
steps_TM3 x a w (left_merge_steps {z = u} s) = absurd (no_step_δ a u s)

steps_TM4 : (a : Action) (x y : Process) → StepsToo (act a · x ⌊ y) (act a · (x ‖ y))
steps_TM4 a x y b w (left_merge_steps (first_steps atom)) =
    (ε · (x ‖ y), first_steps atom, transitive (in_merge (A9 x) (reflexive y)) (symmetric (A9 (x ‖ y))))
steps_TM4 a x y b w (left_merge_steps (second_steps e s)) = absurd (no_end_act a e)

steps_TM4_back : (a : Action) (x y : Process) → StepsToo (act a · (x ‖ y)) (act a · x ⌊ y)
steps_TM4_back a x y b w (first_steps atom) =
    ((ε · x) ‖ y, left_merge_steps (first_steps atom), transitive (A9 (x ‖ y)) (symmetric (in_merge (A9 x) (reflexive y))))
steps_TM4_back a x y b w (second_steps e s) = absurd (no_end_act a e)

steps_TM5 : (x y z : Process) → StepsToo ((x ⊕ y) ⌊ z) (x ⌊ z ⊕ y ⌊ z)
steps_TM5 x y z a w (left_merge_steps (left_steps s)) = (w, left_steps (left_merge_steps s), reflexive w)
steps_TM5 x y z a w (left_merge_steps (right_steps s)) = (w, right_steps (left_merge_steps s), reflexive w)

steps_TM5_back : (x y z : Process) → StepsToo (x ⌊ z ⊕ y ⌊ z) ((x ⊕ y) ⌊ z)
steps_TM5_back x y z a w (left_steps (left_merge_steps s)) = (w, left_merge_steps (left_steps s), reflexive w)
steps_TM5_back x y z a w (right_steps (left_merge_steps s)) = (w, left_merge_steps (right_steps s), reflexive w)

ends_TM5_back : (x y z : Process) → EndsToo (x ⌊ z ⊕ y ⌊ z) ((x ⊕ y) ⌊ z)
ends_TM5_back x y z (left_ends e) = absurd (no_end_⌊ x z e)
ends_TM5_back x y z (right_ends e) = absurd (no_end_⌊ y z e)

-- the termination operator
ends_TE1 : EndsToo (√ ε) ε
ends_TE1 (test_ends e) = e

ends_TE2 : EndsToo (√ δ) δ
ends_TE2 (test_ends e) = e

ends_TE3 : (a : Action) (x : Process) → EndsToo (√ (act a · x)) δ
ends_TE3 a x (test_ends e) = absurd (no_end_prefix a x e)

ends_TE4 : (x y : Process) → EndsToo (√ (x ⊕ y)) (√ x ⊕ √ y)
ends_TE4 x y (test_ends (left_ends e)) = left_ends (test_ends e)
ends_TE4 x y (test_ends (right_ends e)) = right_ends (test_ends e)

ends_TE4_back : (x y : Process) → EndsToo (√ x ⊕ √ y) (√ (x ⊕ y))
ends_TE4_back x y (left_ends (test_ends e)) = test_ends (left_ends e)
ends_TE4_back x y (right_ends (test_ends e)) = test_ends (right_ends e)

steps_TE4_back : (x y : Process) → StepsToo (√ x ⊕ √ y) (√ (x ⊕ y))
steps_TE4_back x y a w (left_steps s) = absurd (no_step_√ x a w s)
steps_TE4_back x y a w (right_steps s) = absurd (no_step_√ y a w s)

-- each equation of Table B.7
pub alike_A1 : (x y : Process) → Alike (x ⊕ y) (y ⊕ x)
alike_A1 x y =
    (record { ends = ends_A1 x y; steps = steps_A1 x y }, record { ends = ends_A1 y x; steps = steps_A1 y x })

pub alike_A2 : (x y z : Process) → Alike ((x ⊕ y) ⊕ z) (x ⊕ (y ⊕ z))
alike_A2 x y z =
    (record { ends = ends_A2 x y z; steps = steps_A2 x y z }, record { ends = ends_A2_back x y z; steps = steps_A2_back x y z })

pub alike_A3 : (x : Process) → Alike (x ⊕ x) x
alike_A3 x =
    (record { ends = ends_A3 x; steps = steps_A3 x }, record { ends = λ e. left_ends e; steps = λ a z s. (z, left_steps s, reflexive z) })

pub alike_A4 : (x y z : Process) → Alike ((x ⊕ y) · z) (x · z ⊕ y · z)
alike_A4 x y z =
    (record { ends = ends_A4 x y z; steps = steps_A4 x y z }, record { ends = ends_A4_back x y z; steps = steps_A4_back x y z })

pub alike_A5 : (x y z : Process) → Alike ((x · y) · z) (x · (y · z))
alike_A5 x y z =
    (record { ends = ends_A5 x y z; steps = steps_A5 x y z }, record { ends = ends_A5_back x y z; steps = steps_A5_back x y z })

pub alike_A6 : (x : Process) → Alike (x ⊕ δ) x
alike_A6 x =
    (record { ends = ends_A6 x; steps = steps_A6 x }, record { ends = λ e. left_ends e; steps = λ a z s. (z, left_steps s, reflexive z) })

pub alike_A7 : (x : Process) → Alike (δ · x) δ
alike_A7 x = (record { ends = ends_A7 x; steps = steps_A7 x }, nothing (δ · x))

pub alike_A8 : (x : Process) → Alike (x · ε) x
alike_A8 x =
    (record { ends = ends_A8 x; steps = steps_A8 x }, record { ends = λ e. both_end e empty; steps = λ a z s. (z · ε, first_steps s, symmetric (A8 z)) })

pub alike_A9 : (x : Process) → Alike (ε · x) x
alike_A9 x =
    (record { ends = ends_A9 x; steps = steps_A9 x }, record { ends = λ e. both_end empty e; steps = λ a z s. (z, second_steps empty s, reflexive z) })

pub alike_TM1 : (x y : Process) → Alike (x ‖ y) (x ⌊ y ⊕ y ⌊ x ⊕ √ x · √ y)
alike_TM1 x y =
    (record { ends = ends_TM1 x y; steps = steps_TM1 x y }, record { ends = ends_TM1_back x y; steps = steps_TM1_back x y })

pub alike_TM2 : (x : Process) → Alike (ε ⌊ x) δ
alike_TM2 x = (endless (ε ⌊ x) δ (no_end_⌊ ε x) (steps_TM2 x), nothing (ε ⌊ x))

pub alike_TM3 : (x : Process) → Alike (δ ⌊ x) δ
alike_TM3 x = (endless (δ ⌊ x) δ (no_end_⌊ δ x) (steps_TM3 x), nothing (δ ⌊ x))

pub alike_TM4 : (a : Action) (x y : Process) → Alike (act a · x ⌊ y) (act a · (x ‖ y))
alike_TM4 a x y = (
  endless (act a · x ⌊ y) (act a · (x ‖ y)) (no_end_⌊ (act a · x) y) (steps_TM4 a x y),
  endless (act a · (x ‖ y)) (act a · x ⌊ y) (no_end_prefix a (x ‖ y)) (steps_TM4_back a x y),
)

pub alike_TM5 : (x y z : Process) → Alike ((x ⊕ y) ⌊ z) (x ⌊ z ⊕ y ⌊ z)
alike_TM5 x y z =
    (endless ((x ⊕ y) ⌊ z) (x ⌊ z ⊕ y ⌊ z) (no_end_⌊ (x ⊕ y) z) (steps_TM5 x y z), record { ends = ends_TM5_back x y z; steps = steps_TM5_back x y z })

pub alike_TE1 : Alike (√ ε) ε
alike_TE1 = (quiet (√ ε) ε ends_TE1 (no_step_√ ε), quiet ε (√ ε) (λ e. test_ends e) no_step_ε)

pub alike_TE2 : Alike (√ δ) δ
alike_TE2 = (quiet (√ δ) δ ends_TE2 (no_step_√ δ), nothing (√ δ))

pub alike_TE3 : (a : Action) (x : Process) → Alike (√ (act a · x)) δ
alike_TE3 a x = (quiet (√ (act a · x)) δ (ends_TE3 a x) (no_step_√ (act a · x)), nothing (√ (act a · x)))

pub alike_TE4 : (x y : Process) → Alike (√ (x ⊕ y)) (√ x ⊕ √ y)
alike_TE4 x y =
    (quiet (√ (x ⊕ y)) (√ x ⊕ √ y) (ends_TE4 x y) (no_step_√ (x ⊕ y)), record { ends = ends_TE4_back x y; steps = steps_TE4_back x y })
