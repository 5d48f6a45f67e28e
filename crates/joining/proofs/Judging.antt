-- A join owes what every chart owes, where its lists are sound within the limits.
use Rattle.std.proofs.Common.{◌≡◌, ℕ, ◌≤◌, Bool, true, false, cond, ◌&&◌, leb, List, length, Some, None, Option, refl}
use Rattle.std.proofs.lemmas.Bool.{and_parts, leb-true}
use Rattle.charts.specs.declared.parts.Event.{Event}
use Rattle.charts.specs.declared.faults.Fault.{Fault}
use Rattle.charts.specs.Judged.{Judged, unspoiled}
use Rattle.charts.specs.Lists.{size}
use Rattle.charts.specs.Sound.{Sound}
use Rattle.charts.specs.Span.{span}
use Rattle.joining.specs.Joined.{fits, join_fault, join_trouble, join_lists}

-- the limits, one by one
pub record Within (J : List (List Event)) : Type 0 where
  pub width : length J ≤ 32
  pub events : size J ≤ 4096
  pub spans : span J ≤ 4096

pub within_limits : (J : List (List Event)) → fits J ≡ true → Within J
within_limits J y =
    let a = and_parts (leb (length J) 32) (leb (size J) 4096 && leb (span J) 4096) y in
    let b = and_parts (leb (size J) 4096) (leb (span J) 4096) a.1 in
    record { width = leb-true (length J) 32 a.0; events = leb-true (size J) 4096 b.0; spans = leb-true (span J) 4096 b.1 }

limits_judged : (layer : ℕ) (J : List (List Event)) (b : Bool) → fits J ≡ b → (Within J → Sound J) →
    Judged (cond b None (Some (join_fault 31 layer))) (unspoiled (cond b None (Some (join_fault 31 layer))) J)
limits_judged layer J true y s = s (within_limits J y)
limits_judged layer J false y s = refl

pub joined_judged : (layer : ℕ) (f g : Option Fault) (J L K : List (List Event)) → Judged f L → Judged g K → (Sound L → Sound K → Within J → Sound J) →
    Judged (join_trouble layer f g J) (join_lists layer f g J)
joined_judged layer (Some f) g J L K jl jk s = refl
joined_judged layer None (Some g) J L K jl jk s = refl
joined_judged layer None None J L K jl jk s = limits_judged layer J (fits J) refl (s jl jk)
