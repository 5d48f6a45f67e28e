-- A set of instances.
use Rattle.std.specs.Prelude.{◌≡◌, ℕ, ◌<◌, Bool, false, ◌==◌}
use Rattle.std.specs.Int.{bit_at}
use Rattle.rules.specs.declared.instances.Instances.{Instances}

-- instance i is in it
abbrev pub has : Instances → ℕ → Bool
has s i = bit_at s.bits i == 1

-- every instance below the width that passes the test is in it
abbrev pub Covers : (ℕ → Bool) → ℕ → Instances → Type 0
Covers test width s = (j : ℕ) → j < width → has s j ≡ false → test j ≡ false
