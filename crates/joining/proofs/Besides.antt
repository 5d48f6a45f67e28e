-- One chart beside another is sound, within the limits.
use Rattle.std.proofs.Common.{◌≡◌, ℕ, ◌+◌, ◌-◌, ◌<◌, ◌≤◌, ◌⊎◌, List, [], ◌++◌, map, length, get_or, Option, sym, refl, ap, ◌∙◌, subst, inl, inr, arith}
use Rattle.std.proofs.lemmas.List.{length-append, length-map, get_or_append_left, get_or-append_right}
use Rattle.std.proofs.lemmas.List.Sums.{sum_by-append}
use Rattle.std.proofs.lemmas.Bool.{cases_lt}
use Rattle.charts.specs.declared.parts.Event.{Event}
use Rattle.charts.specs.Events.{no_event}
use Rattle.charts.specs.Lists.{At, column, size}
use Rattle.charts.specs.Sound.{Sound}
use Rattle.charts.specs.Span.{span}
use Rattle.joining.specs.Moves.{moved}
use Rattle.joining.specs.Beside.{beside}
use Rattle.joining.proofs.Moving.{moved_nowhere, map_at, at_map, map_column, at_instance}
use Rattle.joining.proofs.Sizes.{raised_span, moved_size, span_append}
use Rattle.joining.proofs.Union.{Part, From, union_sound}
use Rattle.joining.proofs.Judging.{joined_judged}
use Rattle.joining.specs.Joined.{join_trouble, join_lists}
use Rattle.charts.specs.declared.faults.Fault.{Fault}
use Rattle.charts.specs.Judged.{Judged}

-- the instances of lists that stand side by side
module _ (L K : List (List Event)) where
  pub left_column : (i : ℕ) → i < length L → column (L ++ K) i ≡ column L i
  left_column i l = get_or_append_left L K [] i l

  pub right_column : (i : ℕ) → length L ≤ i → column (L ++ K) i ≡ column K (i - length L)
  right_column i l = get_or-append_right L K (length L) i [] refl l

at_column : (L K : List (List Event)) (i j k : ℕ) (e : Event) → column L i ≡ column K j → At K j k e → At L i k e
at_column L K i j k e c a =
    record { within = subst (λ (es : List Event). k < length es) (sym c) a.within; is = ap (λ (es : List Event). get_or es k no_event) c ∙ a.is }

module _ (L K : List (List Event)) where
  shifted : Event → Event
  shifted = moved (λ i. i + length L) (span L)

  pub beside_length : length (beside L K) ≡ length L + length K
  unfolding shifted
  beside_length = length-append L (map (map shifted) K) ∙ ap (λ (n : ℕ). length L + n) (length-map K (map shifted))

  pub beside_size : size (beside L K) ≡ size L + size K
  unfolding shifted
  beside_size = sum_by-append length L (map (map shifted) K) ∙ ap (λ (n : ℕ). size L + n) (moved_size (λ i. i + length L) (span L) K)

  pub beside_span : span (beside L K) ≡ span L + span K
  unfolding shifted
  beside_span = let r = raised_span (λ i. i + length L) (span L) K in let a = span_append L (map (map shifted) K) in omega arith

  left : Part (beside L K) L (λ i. i) 0
  unfolding shifted
  left =
      record {
        place = λ i k. k;
        inside = λ i l. let n = beside_length in omega arith;
        forth = λ i k e a.
            subst (At (beside L K) i k) (sym (moved_nowhere (λ i. i) (λ i. refl) e)) (at_column (beside L K) L i i k e (left_column L (map (map shifted) K) i (at_instance L i k e a)) a);
      }

  right : Part (beside L K) K (λ i. i + length L) (span L)
  unfolding shifted
  right =
      record {
        place = λ i k. k;
        inside = λ i l. let n = beside_length in omega arith;
        forth = λ i k e a.
            let z : i + length L - length L ≡ i = omega arith in
            at_column (beside L K) (map (map shifted) K) (i + length L) i k (shifted e)
            (right_column L (map (map shifted) K) (i + length L) (omega arith) ∙ ap (column (map (map shifted) K)) z) (map_at shifted K i k e a);
      }

  sides : (j l : ℕ) (e : Event) → At (beside L K) j l e → From (beside L K) L (λ i. i) 0 left j l e ⊎ From (beside L K) K (λ i. i + length L) (span L) right j l e
  unfolding shifted left right
  sides j l e a =
      elim (cases_lt j (length L)) [
        | inl h ↦
            inl (record {
              instance = j;
              index = l;
              source = e;
              there = at_column L (beside L K) j j l e (sym (left_column L (map (map shifted) K) j h)) a;
              here = (refl, refl);
              is = sym (moved_nowhere (λ i. i) (λ i. refl) e);
            })
        | inr h ↦
            let d = at_map shifted K (j - length L) l e (at_column (map (map shifted) K) (beside L K) (j - length L) j l e (sym (right_column L (map (map shifted) K) j h)) a) in
            inr (record { instance = j - length L; index = l; source = d.0; there = d.1; here = (omega arith, refl); is = d.2 })
      ]

  pub beside_sound : Sound L → Sound K → length L + length K ≤ 32 → size L + size K ≤ 4096 → span L + span K ≤ 4096 → Sound (beside L K)
  beside_sound sl sk narrow few numbers =
      let a = beside_length in
      let b = beside_size in
      union_sound (beside L K) L K (λ i. i) (λ i. i + length L) (span L) left right sl sk (omega arith) (omega arith) (omega arith) (omega arith) numbers sides

pub beside_judged : (f g : Option Fault) (L K : List (List Event)) → Judged f L → Judged g K → Judged (join_trouble 4 f g (beside L K)) (join_lists 4 f g (beside L K))
beside_judged f g L K jl jk =
    joined_judged 4 f g (beside L K) L K jl jk (λ sl sk l.
    let a = beside_length L K in
    let b = beside_size L K in
    let c = beside_span L K in
    beside_sound L K sl sk (omega arith) (omega arith) (omega arith))

-- the counts and the events of one chart beside another
module _ (L K : List (List Event)) (i : ℕ) where
  pub beside_left : i < length L → column (beside L K) i ≡ column L i
  beside_left l = left_column L (map (map (moved (λ i. i + length L) (span L))) K) i l

  pub beside_right : length L ≤ i → column (beside L K) i ≡ map (moved (λ i. i + length L) (span L)) (column K (i - length L))
  beside_right l =
      right_column L (map (map (moved (λ i. i + length L) (span L))) K) i l ∙ map_column (moved (λ i. i + length L) (span L)) K (i - length L)
