-- The merge of processes that begin with actions, terminate or do nothing is commutative.
use Rattle.std.proofs.Common.{◌⊎◌, inl, inr}
use Rattle.process.specs.Actions.{Action}
use Rattle.process.specs.Processes.{Process, ε, δ, act, ◌⊕◌, ◌·◌, ◌‖◌, ◌⌊◌, √}
use Rattle.process.specs.Equations.{◌≈◌, A1, A3, A6, A7, A8, A9, TM1, TM2, TM3, TM4, TM5, TE1, TE2, TE3, TE4}
use Rattle.process.specs.Equations.{reflexive, symmetric, transitive, in_alternative, in_sequence, in_left_merge, in_termination}

-- sums of actions before processes, of ε and of δ
pub data Head : Process → Type 0 where
  head_ε : Head ε
  head_δ : Head δ
  head_action : (a : Action) (x : Process) → Head (act a · x)
  head_sum : {x y : Process} → Head x → Head y → Head (x ⊕ y)

-- the process is derivably equal to such a sum
abbrev pub Headed : Process → Type 0
Headed x = (w : Process) × Head w × (x ≈ w)

-- whether it has an option to terminate is decided
abbrev Decided : Process → Type 0
Decided x = (√ x ≈ ε) ⊎ (√ x ≈ δ)

head_decided : (x : Process) → Head x → Decided x
head_decided _ head_ε = inl TE1
head_decided _ head_δ = inr TE2
head_decided _ (head_action a x) = inr (TE3 a x)
head_decided _ (head_sum {x = x} {y = y} p q) = go (head_decided x p) (head_decided y q)
  where
    go : Decided x → Decided y → Decided (x ⊕ y)
    go (inl e) (inl f) = inl (transitive (TE4 x y) (transitive (in_alternative e f) (A3 ε)))
    go (inl e) (inr f) = inl (transitive (TE4 x y) (transitive (in_alternative e f) (A6 ε)))
    go (inr e) (inl f) = inl (transitive (TE4 x y) (transitive (in_alternative e f) (transitive (A1 δ ε) (A6 ε))))
    go (inr e) (inr f) = inr (transitive (TE4 x y) (transitive (in_alternative e f) (A3 δ)))

decided : (x : Process) → Headed x → Decided x
decided x h =
    elim (head_decided h.0 h.1) [ inl e ↦ inl (transitive (in_termination h.2) e) | inr e ↦ inr (transitive (in_termination h.2) e) ]

tests_commute : (x y : Process) → Decided x → Decided y → √ x · √ y ≈ √ y · √ x
tests_commute x y (inl e) (inl f) = transitive (in_sequence e f) (symmetric (in_sequence f e))
tests_commute x y (inl e) (inr f) =
    transitive (in_sequence e (reflexive (√ y))) (transitive (A9 (√ y)) (transitive (symmetric (A8 (√ y))) (in_sequence (reflexive (√ y)) (symmetric e))))
tests_commute x y (inr e) (inl f) =
    transitive (in_sequence (reflexive (√ x)) f) (transitive (A8 (√ x)) (transitive (symmetric (A9 (√ x))) (in_sequence (symmetric f) (reflexive (√ x)))))
tests_commute x y (inr e) (inr f) = transitive (in_sequence e f) (symmetric (in_sequence f e))

pub merge_commutes : (x y : Process) → Headed x → Headed y → x ‖ y ≈ y ‖ x
merge_commutes x y h k =
    transitive (TM1 x y)
    (transitive (in_alternative (A1 (x ⌊ y) (y ⌊ x)) (tests_commute x y (decided x h) (decided y k))) (symmetric (TM1 y x)))

-- merges of such processes are such
headed_sum : (x y : Process) → Headed x → Headed y → Headed (x ⊕ y)
headed_sum x y h k = (h.0 ⊕ k.0, head_sum h.1 k.1, in_alternative h.2 k.2)

headed_same : (x y : Process) → x ≈ y → Headed y → Headed x
headed_same x y e h = (h.0, h.1, transitive e h.2)

left_merge_head : (x y : Process) → Head x → Headed (x ⌊ y)
left_merge_head _ y head_ε = (δ, head_δ, TM2 y)
left_merge_head _ y head_δ = (δ, head_δ, TM3 y)
left_merge_head _ y (head_action a x) = (act a · (x ‖ y), head_action a (x ‖ y), TM4 a x y)
left_merge_head _ y (head_sum {x = x} {y = z} p q) =
    headed_same ((x ⊕ z) ⌊ y) (x ⌊ y ⊕ z ⌊ y) (TM5 x z y) (headed_sum (x ⌊ y) (z ⌊ y) (left_merge_head x y p) (left_merge_head z y q))

left_merge_headed : (x y : Process) → Headed x → Headed (x ⌊ y)
left_merge_headed x y h = headed_same (x ⌊ y) (h.0 ⌊ y) (in_left_merge h.2 (reflexive y)) (left_merge_head h.0 y h.1)

tests_headed : (x y : Process) → Decided x → Decided y → Headed (√ x · √ y)
tests_headed x y (inl e) (inl f) = (ε, head_ε, transitive (in_sequence e f) (A8 ε))
tests_headed x y (inl e) (inr f) = (δ, head_δ, transitive (in_sequence e f) (A9 δ))
tests_headed x y (inr e) d = (δ, head_δ, transitive (in_sequence e (reflexive (√ y))) (A7 (√ y)))

pub merge_headed : (x y : Process) → Headed x → Headed y → Headed (x ‖ y)
merge_headed x y h k =
    headed_same (x ‖ y) (x ⌊ y ⊕ y ⌊ x ⊕ √ x · √ y) (TM1 x y)
    (headed_sum (x ⌊ y ⊕ y ⌊ x) (√ x · √ y) (headed_sum (x ⌊ y) (y ⌊ x) (left_merge_headed x y h) (left_merge_headed y x k))
    (tests_headed x y (decided x h) (decided y k)))
