-- Merges of actions in sequence, written out as their interleavings.
use Rattle.process.specs.Actions.{Action}
use Rattle.process.specs.Processes.{Process, ε, δ, act, ◌⊕◌, ◌·◌, ◌‖◌, ◌⌊◌, √}
use Rattle.process.specs.Equations.{◌≈◌, A1, A2, A3, A5, A6, A7, A8, A9, TM1, TM2, TM4, TM5, TE1, TE3, TE4}
use Rattle.process.specs.Equations.{reflexive, symmetric, transitive, in_alternative, in_sequence, in_merge, in_left_merge, in_termination}

pub deadlock_first : (x : Process) → δ ⊕ x ≈ x
deadlock_first x = transitive (A1 δ x) (A6 x)

-- a process that begins with an action does not terminate at once, nor does its merge
no_end_left : (a : Action) (x y : Process) → √ (act a · x) · √ y ≈ δ
no_end_left a x y = transitive (in_sequence (TE3 a x) (reflexive (√ y))) (A7 (√ y))

pub two : (a b : Action) (x y : Process) → act a · x ‖ act b · y ≈ act a · (x ‖ act b · y) ⊕ act b · (y ‖ act a · x)
two a b x y =
    transitive (TM1 (act a · x) (act b · y))
    (transitive (in_alternative (in_alternative (TM4 a x (act b · y)) (TM4 b y (act a · x))) (no_end_left a x (act b · y)))
    (A6 (act a · (x ‖ act b · y) ⊕ act b · (y ‖ act a · x))))

pub one_and_sum : (a c d : Action) (x y z : Process) →
    act a · x ‖ (act c · y ⊕ act d · z) ≈ act a · (x ‖ (act c · y ⊕ act d · z)) ⊕ act c · (y ‖ act a · x) ⊕ act d · (z ‖ act a · x)
one_and_sum a c d x y z =
    let w = act c · y ⊕ act d · z in
    let p = act a · x in
    transitive (TM1 p w)
    (transitive (in_alternative (in_alternative (TM4 a x w) (transitive (TM5 (act c · y) (act d · z) p) (in_alternative (TM4 c y p) (TM4 d z p)))) (no_end_left a x w))
    (transitive (A6 (act a · (x ‖ w) ⊕ (act c · (y ‖ p) ⊕ act d · (z ‖ p)))) (symmetric (A2 (act a · (x ‖ w)) (act c · (y ‖ p)) (act d · (z ‖ p))))))

-- the empty process adds nothing
pub empty_empty : ε ‖ ε ≈ ε
empty_empty =
    transitive (TM1 ε ε)
    (transitive (in_alternative (in_alternative (TM2 ε) (TM2 ε)) (transitive (in_sequence TE1 TE1) (A8 ε)))
    (transitive (in_alternative (A3 δ) (reflexive ε)) (deadlock_first ε)))

prefix_empty : (a : Action) (x : Process) → x ‖ ε ≈ x → act a · x ‖ ε ≈ act a · x
prefix_empty a x e =
    transitive (TM1 (act a · x) ε)
    (transitive (in_alternative (in_alternative (transitive (TM4 a x ε) (in_sequence (reflexive (act a)) e)) (TM2 (act a · x))) (no_end_left a x ε))
    (transitive (A6 (act a · x ⊕ δ)) (A6 (act a · x))))

empty_prefix : (a : Action) (x : Process) → x ‖ ε ≈ x → ε ‖ act a · x ≈ act a · x
empty_prefix a x e =
    transitive (TM1 ε (act a · x))
    (transitive
    (in_alternative (in_alternative (TM2 (act a · x)) (transitive (TM4 a x ε) (in_sequence (reflexive (act a)) e))) (transitive (in_sequence TE1 (TE3 a x)) (A9 δ)))
    (transitive (A6 (δ ⊕ act a · x)) (deadlock_first (act a · x))))

pub empty_sum : (c d : Action) (y z : Process) → y ‖ ε ≈ y → z ‖ ε ≈ z → ε ‖ (act c · y ⊕ act d · z) ≈ act c · y ⊕ act d · z
empty_sum c d y z e f =
    let w = act c · y ⊕ act d · z in
    transitive (TM1 ε w)
    (transitive
    (in_alternative
    (in_alternative (TM2 w)
    (transitive (TM5 (act c · y) (act d · z) ε)
    (in_alternative (transitive (TM4 c y ε) (in_sequence (reflexive (act c)) e)) (transitive (TM4 d z ε) (in_sequence (reflexive (act d)) f)))))
    (transitive (in_sequence TE1 (transitive (TE4 (act c · y) (act d · z)) (transitive (in_alternative (TE3 c y) (TE3 d z)) (A3 δ)))) (A9 δ)))
    (transitive (A6 (δ ⊕ w)) (deadlock_first w)))

-- one action
pub single_empty : (a : Action) → act a · ε ‖ ε ≈ act a · ε
single_empty a = prefix_empty a ε empty_empty

pub empty_single : (a : Action) → ε ‖ act a · ε ≈ act a
empty_single a = transitive (empty_prefix a ε empty_empty) (A8 (act a))

pub action_empty : (a : Action) → act a ‖ ε ≈ act a
action_empty a = transitive (in_merge (symmetric (A8 (act a))) (reflexive ε)) (transitive (single_empty a) (A8 (act a)))

-- two actions
pub singles : (c d : Action) → act c · ε ‖ act d · ε ≈ act c · act d ⊕ act d · act c
singles c d = transitive (two c d ε ε) (in_alternative (in_sequence (reflexive (act c)) (empty_single d)) (in_sequence (reflexive (act d)) (empty_single c)))

pub action_single : (c d : Action) → act c ‖ act d · ε ≈ act c · act d ⊕ act d · act c
action_single c d = transitive (in_merge (symmetric (A8 (act c))) (reflexive (act d · ε))) (singles c d)

-- an action before another, by the left merge
pub action_left_merge : (c d : Action) → act c ⌊ act d ≈ act c · act d
action_left_merge c d =
    transitive (in_left_merge (symmetric (A8 (act c))) (symmetric (A8 (act d)))) (transitive (TM4 c ε (act d · ε)) (in_sequence (reflexive (act c)) (empty_single d)))

-- an action does not terminate at once
pub action_no_end : (a : Action) (x : Process) → √ (act a) · √ x ≈ δ
action_no_end a x = transitive (in_sequence (in_termination (symmetric (A8 (act a)))) (reflexive (√ x))) (no_end_left a ε x)

-- one action beside two in sequence
pub action_pair : (d a b : Action) → act d ‖ act a · (act b · ε) ≈ act a · (act d · act b ⊕ act b · act d) ⊕ act d · act a · act b
action_pair d a b =
    transitive (in_merge (symmetric (A8 (act d))) (reflexive (act a · (act b · ε))))
    (transitive (two d a ε (act b · ε))
    (transitive
    (in_alternative
    (transitive (in_sequence (reflexive (act d)) (transitive (empty_prefix a (act b · ε) (single_empty b)) (in_sequence (reflexive (act a)) (A8 (act b)))))
    (symmetric (A5 (act d) (act a) (act b))))
    (in_sequence (reflexive (act a)) (transitive (singles b d) (A1 (act b · act d) (act d · act b)))))
    (A1 (act d · act a · act b) (act a · (act d · act b ⊕ act b · act d)))))
