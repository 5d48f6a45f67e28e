-- The state operator's rules in one: what it admits, and its set after_action.
use Rattle.std.proofs.Common.{◌≡◌, Bool, true, false, not, refl, ap}
use Rattle.std.proofs.lemmas.Bool.{both_ways, not-true, not_from_false}
use Rattle.process.specs.Actions.{Action, out, «in», out_env, in_env, local, between}
use Rattle.process.specs.Processes.{Messages, Process, filter}
use Rattle.process.specs.OnTheWay.{after_action}
use Rattle.process.specs.Rules.{Step, filter_passes, filter_sends, filter_takes}

-- the state operator lets the action pass
abbrev pub admits : Messages → Action → Bool
admits M (out i j m) = not (M m)
admits M («in» i j m) = M m
admits M (out_env i m) = true
admits M (in_env j m) = true
admits M (local i n) = true

-- what is not between instances passes and leaves the set
pub passes : (M : Messages) (a : Action) → between a ≡ false → (admits M a ≡ true) × (after_action M a ≡ M)
passes M (out i j m) b = absurd (both_ways true b refl)
passes M («in» i j m) b = absurd (both_ways true b refl)
passes M (out_env i m) b = (refl, refl)
passes M (in_env j m) b = (refl, refl)
passes M (local i n) b = (refl, refl)

pub record Passed (M : Messages) (x : Process) (a : Action) (z : Process) : Type 0 where
  pub inner : Process
  pub steps : Step x a inner
  pub admitted : admits M a ≡ true
  pub is : filter (after_action M a) inner ≡ z

pub passed : (M : Messages) (x : Process) (a : Action) (z : Process) → Step (filter M x) a z → Passed M x a z
passed M x a _ (filter_passes {z = z} b s) =
    let p = passes M a b in
    record { inner = z; steps = s; admitted = p.0; is = ap (λ (N : Messages). filter N z) p.1 }
passed M x _ _ (filter_sends {z = z} {m = m} n s) = record { inner = z; steps = s; admitted = not_from_false (M m) n; is = refl }
passed M x _ _ (filter_takes {z = z} {m = m} n s) = record { inner = z; steps = s; admitted = n; is = refl }

pub filter_lets : (M : Messages) (x : Process) (a : Action) (z : Process) → Step x a z → admits M a ≡ true → Step (filter M x) a (filter (after_action M a) z)
filter_lets M x (out i j m) z s y = filter_sends (not-true (M m) y) s
filter_lets M x («in» i j m) z s y = filter_takes y s
filter_lets M x (out_env i m) z s y = filter_passes refl s
filter_lets M x (in_env j m) z s y = filter_passes refl s
filter_lets M x (local i n) z s y = filter_passes refl s
