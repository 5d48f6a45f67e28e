-- The atomic actions of a chart (Z.120 Annex B, Tables B.8 and B.9). Instances, messages and local actions go by their numbers.
use Rattle.std.specs.Prelude.{ℕ, Bool, true, false}

pub data Action : Type 0 where
  -- out(i, j, m): instance i outputs message m to instance j
  out : (i j m : ℕ) → Action
  -- in(i, j, m): instance j inputs message m from instance i
  «in» : (i j m : ℕ) → Action
  -- out(i, env, m): instance i outputs message m to the environment
  out_env : (i m : ℕ) → Action
  -- in(env, j, m): instance j inputs message m from the environment
  in_env : (j m : ℕ) → Action
  -- action(i, n): instance i performs its local action n
  local : (i n : ℕ) → Action

-- the instance that an action is defined on
abbrev pub instance : Action → ℕ
instance (out i j m) = i
instance («in» i j m) = j
instance (out_env i m) = i
instance (in_env j m) = j
instance (local i n) = i

-- the action is an output or an input between instances
abbrev pub between : Action → Bool
between (out i j m) = true
between («in» i j m) = true
between (out_env i m) = false
between (in_env j m) = false
between (local i n) = false
