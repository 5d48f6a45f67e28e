-- The closed processes of Z.120 Annex B: its signature (Definitions B.3.3.1 and B.4.4.1).
use Rattle.std.specs.Prelude.{◌≡◌, ℕ, Bool, false, not, ◌&&◌, ◌||◌, ◌==◌}
use Rattle.process.specs.Actions.{Action}

-- a set of messages: the answer to each, whether it is in the set. Two sets with the same answers are equal
abbrev pub Messages : Type 0
Messages = ℕ → Bool

-- no message
abbrev pub none : Messages
none = λ n. false

-- M ∪ {m}
abbrev pub with_message : Messages → ℕ → Messages
with_message M m = λ n. (n == m) || M n

-- M ∖ {m}
abbrev pub without_message : Messages → ℕ → Messages
without_message M m = λ n. not (n == m) && M n

-- M = ∅
abbrev pub Empty : Messages → Type 0
Empty M = (m : ℕ) → M m ≡ false

infixl 70 ◌⊕◌
infixl 75 ◌‖◌ ◌⌊◌
infixl 80 ◌·◌
pub data Process : Type 0 where
  -- the empty process, which only terminates
  ε : Process
  -- deadlock
  δ : Process
  -- an atomic action
  act : Action → Process
  -- alternative composition, + in the Annex
  ◌⊕◌ : Process → Process → Process
  -- sequential composition
  ◌·◌ : Process → Process → Process
  -- free merge
  ◌‖◌ : Process → Process → Process
  -- left merge
  ◌⌊◌ : Process → Process → Process
  -- the termination operator
  √ : Process → Process
  -- the state operator, which the Annex calls the I/O-filter and writes λ with the set below it
  filter : Messages → Process → Process
