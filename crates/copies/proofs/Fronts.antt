-- The front of a list of events decides the lists that are cut from it.
use Rattle.std.proofs.Common.{◌≡◌, ℕ, ◌+◌, ◌<◌, ◌≤◌, List, [], ◌∷◌, length, get_or, take, drop, sum, refl, ap, ◌∙◌, arith}
use Rattle.std.proofs.lemmas.List.{take-take, drop-take}
use Rattle.std.proofs.lemmas.List.Sums.{sum_by_more, sum_by-take-le}
use Rattle.charts.specs.declared.parts.Event.{Event}
use Rattle.checks.specs.Cut.{cut}
use Rattle.checks.proofs.Cuts.{sum_cons}

pub cut_front : (ns : List ℕ) (es : List Event) → cut ns (take (sum ns) es) ≡ cut ns es
cut_front [] es = refl
cut_front (n ∷ ns) es =
    let c = sum_cons n ns in
    let here = ap (λ (x : ℕ). take n (take x es)) c ∙ take-take n (n + sum ns) es (omega arith) in
    let rest = ap (λ (x : ℕ). cut ns (drop n (take x es))) c ∙ ap (cut ns) (drop-take n (sum ns) es) ∙ cut_front ns (drop n es) in
    λ t. here t ∷ rest t

-- the parts before an earlier part are no longer
pub sum_before : (ns : List ℕ) (i j : ℕ) → j < i → j < length ns → sum (take j ns) + get_or ns j 0 ≤ sum (take i ns)
sum_before ns i j l w =
    let m = sum_by_more (λ x. x) ns j 0 w in
    let t = ap sum (take-take (j + 1) i ns (omega arith)) in
    let b = sum_by-take-le (λ x. x) (take i ns) (j + 1) in
    omega arith
