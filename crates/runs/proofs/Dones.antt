-- Whether every list is done.
use Rattle.std.proofs.Common.{◌≡◌, ℕ, ◌<◌, ◌≤◌, Bool, true, false, not, List, length, Some, None, Option, IsTrue, ◌↔◌, refl, subst, arith, is_some}
use Rattle.charts.specs.declared.parts.Event.{Event}
use Rattle.orders.specs.Deciding.{unfinished}
use Rattle.orders.specs.Driving.{lowest}
use Rattle.rules.specs.declared.row.Row.{Row}
use Rattle.rules.specs.Places.{place_of}
use Rattle.rules.specs.Held.{some_below}
use Rattle.rules.proofs.Drove.{below_some, below_none}
use Rattle.runs.specs.Stands.{Stands}
use Rattle.runs.specs.Drives.{Done}
use Rattle.runs.proofs.Telling.{standing}
use Rattle.runs.proofs.Driving.{all_done, not_done}

-- every list is done exactly where no instance is found that has an event left
pub done_told : (L : List (List Event)) (rows : List Row) (h : List ℕ) → Stands rows h → (found : Option ℕ) (b : Bool) →
    found ≡ some_below (length L) (lowest (unfinished L (place_of rows)) (length L)) → is_some found ≡ not b → IsTrue b ↔ Done L h
done_told L rows h stands None true e f =
    (λ t. all_done L h (subst (λ (p : ℕ → ℕ). length L ≤ lowest (unfinished L p) (length L)) (standing rows h stands) (below_none (length L) (lowest (unfinished L (place_of rows)) (length L)) e)), λ d. refl)
done_told L rows h stands None false e f = absurd (let z : ◌≡◌ {A = ℕ} 0 1 = cc in omega arith)
done_told L rows h stands (Some x) true e f = absurd (let z : ◌≡◌ {A = ℕ} 0 1 = cc in omega arith)
done_told L rows h stands (Some x) false e f =
    let s = below_some (length L) (lowest (unfinished L (place_of rows)) (length L)) x e in
    let l : lowest (unfinished L (place_of rows)) (length L) < length L = omega arith in (
      λ t. absurd (let z : ◌≡◌ {A = ℕ} 0 1 = cc in omega arith),
      λ d. absurd (not_done L h (subst (λ (p : ℕ → ℕ). lowest (unfinished L p) (length L) < length L) (standing rows h stands) l) d),
    )
