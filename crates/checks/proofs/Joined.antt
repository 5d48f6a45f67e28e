-- Lists joined end to end, and cut again by their lengths.
use Rattle.std.proofs.Common.{◌≡◌, List, [], ◌∷◌, map, length, None, sum, sym, refl, ap, ◌∙◌, subst, arith}
use Rattle.std.proofs.lemmas.List.{length-append, take_at, drop_at}
use Rattle.charts.specs.declared.parts.Event.{Event}
use Rattle.checks.specs.Cut.{cut, in_one}
use Rattle.charts.specs.Sound.{Sound}
use Rattle.checks.specs.Checked.{checked}
use Rattle.checks.proofs.Cuts.{sum_cons}
use Rattle.checks.proofs.Exact.{checked_sound, sound_checked}

pub cut_joined : (L : List (List Event)) → cut (map length L) (in_one L) ≡ L
cut_joined [] = refl
cut_joined (es ∷ L) =
    let here = take_at es (in_one L) (length es) refl in
    let rest = ap (cut (map length L)) (drop_at es (in_one L) (length es) refl) ∙ cut_joined L in
    λ t. here t ∷ rest t

pub sum_lengths : (L : List (List Event)) → sum (map length L) ≡ length (in_one L)
sum_lengths [] = refl
sum_lengths (es ∷ L) =
    let c = sum_cons (length es) (map length L) in
    let r = sum_lengths L in
    let a = length-append es (in_one L) in
    omega arith

-- the table of sound lists passes its checks
pub joined_checked : (L : List (List Event)) → Sound L → checked (map length L) (in_one L) ≡ None
joined_checked L s =
    sound_checked (map length L) (in_one L) (record { even = sum_lengths L; sound = subst Sound (sym (cut_joined L)) s })

-- and lists whose table passes them are sound
pub checked_joined : (L : List (List Event)) → checked (map length L) (in_one L) ≡ None → Sound L
checked_joined L e = subst Sound (cut_joined L) (checked_sound (map length L) (in_one L) e).sound
