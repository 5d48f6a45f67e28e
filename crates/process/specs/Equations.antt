-- The equations of Z.120 Annex B (Tables B.7 and B.10) and what is derivable from them (Definition B.3.2.5), over closed processes.
use Rattle.std.specs.Prelude.{◌≡◌, ℕ, true, false}
use Rattle.process.specs.Actions.{Action, out, «in», between}
use Rattle.process.specs.Processes.{Messages, Empty, with_message, without_message, Process, ε, δ, act, ◌⊕◌, ◌·◌, ◌‖◌, ◌⌊◌, √, filter}

infix 20 ◌≈◌
-- x ≈ y: the equation x = y is derivable
pub data ◌≈◌ : Process → Process → Type 0 where
  -- Table B.7
  A1 : (x y : Process) → x ⊕ y ≈ y ⊕ x
  A2 : (x y z : Process) → (x ⊕ y) ⊕ z ≈ x ⊕ (y ⊕ z)
  A3 : (x : Process) → x ⊕ x ≈ x
  A4 : (x y z : Process) → (x ⊕ y) · z ≈ x · z ⊕ y · z
  A5 : (x y z : Process) → (x · y) · z ≈ x · (y · z)
  A6 : (x : Process) → x ⊕ δ ≈ x
  A7 : (x : Process) → δ · x ≈ δ
  A8 : (x : Process) → x · ε ≈ x
  A9 : (x : Process) → ε · x ≈ x
  TM1 : (x y : Process) → x ‖ y ≈ x ⌊ y ⊕ y ⌊ x ⊕ √ x · √ y
  TM2 : (x : Process) → ε ⌊ x ≈ δ
  TM3 : (x : Process) → δ ⌊ x ≈ δ
  TM4 : (a : Action) (x y : Process) → act a · x ⌊ y ≈ act a · (x ‖ y)
  TM5 : (x y z : Process) → (x ⊕ y) ⌊ z ≈ x ⌊ z ⊕ y ⌊ z
  TE1 : √ ε ≈ ε
  TE2 : √ δ ≈ δ
  TE3 : (a : Action) (x : Process) → √ (act a · x) ≈ δ
  TE4 : (x y : Process) → √ (x ⊕ y) ≈ √ x ⊕ √ y
  -- Table B.10
  LM1 : (M : Messages) → Empty M → filter M ε ≈ ε
  LM2 : (M : Messages) → (Empty M → ⊥) → filter M ε ≈ δ
  LM3 : (M : Messages) → filter M δ ≈ δ
  LM4 : (M : Messages) (a : Action) (x : Process) → between a ≡ false → filter M (act a · x) ≈ act a · filter M x
  LM5 : (M : Messages) (i j m : ℕ) (x : Process) → M m ≡ true → filter M (act (out i j m) · x) ≈ δ
  LM6 : (M : Messages) (i j m : ℕ) (x : Process) → M m ≡ false →
      filter M (act (out i j m) · x) ≈ act (out i j m) · filter (with_message M m) x
  LM7 : (M : Messages) (i j m : ℕ) (x : Process) → M m ≡ true →
      filter M (act («in» i j m) · x) ≈ act («in» i j m) · filter (without_message M m) x
  LM8 : (M : Messages) (i j m : ℕ) (x : Process) → M m ≡ false → filter M (act («in» i j m) · x) ≈ δ
  LM9 : (M : Messages) (x y : Process) → filter M (x ⊕ y) ≈ filter M x ⊕ filter M y
  -- Definition B.3.2.5: reflexivity, symmetry, transitivity, and contexts by one rule for each operator
  reflexive : (x : Process) → x ≈ x
  symmetric : {x y : Process} → x ≈ y → y ≈ x
  transitive : {x y z : Process} → x ≈ y → y ≈ z → x ≈ z
  in_alternative : {x y u v : Process} → x ≈ y → u ≈ v → x ⊕ u ≈ y ⊕ v
  in_sequence : {x y u v : Process} → x ≈ y → u ≈ v → x · u ≈ y · v
  in_merge : {x y u v : Process} → x ≈ y → u ≈ v → x ‖ u ≈ y ‖ v
  in_left_merge : {x y u v : Process} → x ≈ y → u ≈ v → x ⌊ u ≈ y ⌊ v
  in_termination : {x y : Process} → x ≈ y → √ x ≈ √ y
  in_filter : (M : Messages) {x y : Process} → x ≈ y → filter M x ≈ filter M y
