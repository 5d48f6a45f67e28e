-- The operational rules: which steps a process makes, and when it ends.
use Rattle.std.specs.Prelude.{◌≡◌, ℕ, true, false}
use Rattle.process.specs.Actions.{Action, out, «in», between}
use Rattle.process.specs.Processes.{Messages, Empty, with_message, without_message, Process, ε, act, ◌⊕◌, ◌·◌, ◌‖◌, ◌⌊◌, √, filter}

-- the process can end at once
pub data Ends : Process → Type 0 where
  empty : Ends ε
  left_ends : {x y : Process} → Ends x → Ends (x ⊕ y)
  right_ends : {x y : Process} → Ends y → Ends (x ⊕ y)
  both_end : {x y : Process} → Ends x → Ends y → Ends (x · y)
  merge_ends : {x y : Process} → Ends x → Ends y → Ends (x ‖ y)
  test_ends : {x : Process} → Ends x → Ends (√ x)
  filter_ends : {M : Messages} {x : Process} → Empty M → Ends x → Ends (filter M x)

-- the process can do the action and is then the other process. Where the right side of a merge steps, the sides change places:
-- that is what the left merge of TM1 and TM4 gives
pub data Step : Process → Action → Process → Type 0 where
  atom : {a : Action} → Step (act a) a ε
  left_steps : {x y z : Process} {a : Action} → Step x a z → Step (x ⊕ y) a z
  right_steps : {x y z : Process} {a : Action} → Step y a z → Step (x ⊕ y) a z
  first_steps : {x y z : Process} {a : Action} → Step x a z → Step (x · y) a (z · y)
  second_steps : {x y z : Process} {a : Action} → Ends x → Step y a z → Step (x · y) a z
  merge_left_steps : {x y z : Process} {a : Action} → Step x a z → Step (x ‖ y) a (z ‖ y)
  merge_right_steps : {x y z : Process} {a : Action} → Step y a z → Step (x ‖ y) a (z ‖ x)
  left_merge_steps : {x y z : Process} {a : Action} → Step x a z → Step (x ⌊ y) a (z ‖ y)
  filter_passes : {M : Messages} {x z : Process} {a : Action} → between a ≡ false → Step x a z → Step (filter M x) a (filter M z)
  filter_sends : {M : Messages} {x z : Process} {i j m : ℕ} → M m ≡ false → Step x (out i j m) z → Step (filter M x) (out i j m) (filter (with_message M m) z)
  filter_takes : {M : Messages} {x z : Process} {i j m : ℕ} → M m ≡ true → Step x («in» i j m) z →
      Step (filter M x) («in» i j m) (filter (without_message M m) z)
