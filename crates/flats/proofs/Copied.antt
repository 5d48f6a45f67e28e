-- A copy of a chart has its fault and its lists.
use Rattle.std.proofs.Common.{◌≡◌, ℕ, ◌≤◌, List, map, length, Some, None, Option, Result, sym, refl, ap, ◌∙◌}
use Rattle.std.proofs.lemmas.List.{take_all}
use Rattle.charts.specs.declared.parts.Event.{Event}
use Rattle.charts.specs.declared.faults.Fault.{Fault}
use Rattle.charts.specs.declared.parts.Summary.{Summary}
use Rattle.charts.specs.Judged.{Judged, summed, unspoiled}
use Rattle.checks.specs.Cut.{cut, in_one}
use Rattle.checks.proofs.Joined.{cut_joined, joined_checked}
use Rattle.flats.specs.declared.columns.Column.{Column}
use Rattle.flats.specs.FlatLists.{counts, flat_trouble, flat_lists}
use Rattle.flats.proofs.Turns.{Firsts}

-- the same fault and the same lists
pub record Copies (v : Result Summary Fault) (ns : List ℕ) (es : List Event) (t : Option Fault) (L : List (List Event)) : Type 0 where
  pub trouble : flat_trouble v ns es ≡ t
  pub lists : flat_lists v ns es ≡ L

copies_at : (t : Option Fault) (L : List (List Event)) → Judged t L → Copies (summed t L) (map length L) (in_one L) t L
copies_at None L s =
    let c = joined_checked L s in
    record { trouble = c; lists = ap (λ (f : Option Fault). unspoiled f (cut (map length L) (in_one L))) c ∙ cut_joined L }
copies_at (Some f) L e = record { trouble = refl; lists = sym e }

pub copies : (v : Result Summary Fault) (cs : List Column) (es : List Event) (i : ℕ) (t : Option Fault) (L : List (List Event)) →
    Judged t L → v ≡ summed t L → length L ≤ i → Firsts cs es i L → Copies v (counts cs) es t L
copies v cs es i t L j a h so =
    let all = take_all i L h in
    let b = so.columns ∙ ap (map length) all in
    let d = so.events ∙ ap in_one all in
    rw (a, b, d) (copies_at t L j)

-- so its verdict is the chart's
pub copied_verdict : (v : Result Summary Fault) (ns : List ℕ) (es : List Event) (t : Option Fault) (L : List (List Event)) →
    Copies v ns es t L → v ≡ summed t L → v ≡ summed (flat_trouble v ns es) (flat_lists v ns es)
copied_verdict v ns es t L c e = let a = c.trouble in let b = c.lists in cc
