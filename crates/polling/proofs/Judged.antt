-- A poll is sound within its limits, and has no instances past them.
use Rattle.std.proofs.Common.{◌≡◌, ℕ, Bool, true, false, cond, leb, Some, None, refl}
use Rattle.std.proofs.lemmas.Bool.{and_parts, leb-true}
use Rattle.charts.specs.Judged.{Judged, unspoiled}
use Rattle.polling.specs.Limits.{allowed, oversize, trouble_of, lists_of}
use Rattle.polling.specs.Polling.{polling}
use Rattle.polling.proofs.Sound.{sound_polling}

judged_when : (n r : ℕ) (b : Bool) → allowed n r ≡ b → Judged (cond b None (Some oversize)) (unspoiled (cond b None (Some oversize)) (polling n r))
judged_when n r true e =
    let both = and_parts (leb n 31) (leb r 32) e in sound_polling n r (leb-true n 31 both.0) (leb-true r 32 both.1)
judged_when n r false e = refl

pub judged : (n r : ℕ) → Judged (trouble_of n r) (lists_of n r)
judged n r = judged_when n r (allowed n r) refl
