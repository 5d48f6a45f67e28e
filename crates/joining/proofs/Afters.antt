-- One chart after another is sound, within the limits.
use Rattle.std.proofs.Common.{◌≡◌, ℕ, zero, suc, ◌+◌, ◌-◌, ◌<◌, ◌≤◌, max, ◌⊎◌, List, [], ◌∷◌, ◌++◌, map, length, get_or, Option, sym, refl, ap, ◌∙◌, subst, inl, inr, arith}
use Rattle.std.proofs.lemmas.List.{length-append, length-map, get_or_append_left, get_or-append_right, append-nil}
use Rattle.std.proofs.lemmas.List.Sums.{sum_by-cons}
use Rattle.std.proofs.lemmas.Bool.{cases_lt}
use Rattle.charts.specs.declared.parts.Event.{Event}
use Rattle.charts.specs.Events.{no_event}
use Rattle.charts.specs.Lists.{At, column, count_of, event_of, size}
use Rattle.charts.proofs.Bounds.{past_count}
use Rattle.charts.specs.Sound.{Sound}
use Rattle.charts.specs.Span.{span}
use Rattle.joining.specs.Moves.{moved}
use Rattle.joining.specs.After.{append, after}
use Rattle.joining.proofs.Moving.{moved_nowhere, map_at, at_map, map_count}
use Rattle.joining.proofs.Sizes.{raised_span, moved_size, span_of_append}
use Rattle.joining.proofs.Union.{Part, From, union_sound}
use Rattle.joining.proofs.Judging.{joined_judged}
use Rattle.joining.specs.Joined.{join_trouble, join_lists}
use Rattle.charts.specs.declared.faults.Fault.{Fault}
use Rattle.charts.specs.Judged.{Judged}

pub append_column : (L K : List (List Event)) (i : ℕ) → column (append L K) i ≡ column L i ++ column K i
append_column [] K i = refl
append_column (es ∷ L) [] i = sym (append-nil (column (es ∷ L) i))
append_column (es ∷ L) (fs ∷ K) zero = refl
append_column (es ∷ L) (fs ∷ K) (suc i) = append_column L K i

pub append_length : (L K : List (List Event)) → length (append L K) ≡ max (length L) (length K)
append_length [] K = omega arith
append_length (es ∷ L) [] = omega arith
append_length (es ∷ L) (fs ∷ K) = let r = append_length L K in omega arith

pub append_size : (L K : List (List Event)) → size (append L K) ≡ size L + size K
append_size [] K = omega arith
append_size (es ∷ L) [] = omega arith
append_size (es ∷ L) (fs ∷ K) =
    let r = append_size L K in
    let a = sum_by-cons length (es ++ fs) (append L K) in
    let b = sum_by-cons length es L in
    let c = sum_by-cons length fs K in
    let d = length-append es fs in
    omega arith

pub append_span : (L K : List (List Event)) → span (append L K) ≡ max (span L) (span K)
append_span [] K = omega arith
append_span (es ∷ L) [] = omega arith
append_span (es ∷ L) (fs ∷ K) = let r = append_span L K in let a = span_of_append es fs in omega arith

-- the count and the events of appended lists
module _ (L K : List (List Event)) (i : ℕ) where
  pub append_count : count_of (append L K) i ≡ count_of L i + count_of K i
  append_count = ap length (append_column L K i) ∙ length-append (column L i) (column K i)

  first_at : (k : ℕ) (e : Event) → At L i k e → At (append L K) i k e
  first_at k e a =
      let c = append_count in
      let w = a.within in
      record {
        within = omega arith;
        is = ap (λ (es : List Event). get_or es k no_event) (append_column L K i) ∙ get_or_append_left (column L i) (column K i) no_event k a.within ∙ a.is;
      }

  second_at : (k : ℕ) (e : Event) → At K i k e → At (append L K) i (count_of L i + k) e
  second_at k e a =
      let c = append_count in
      let w = a.within in
      let z : count_of L i + k - count_of L i ≡ k = omega arith in
      record {
        within = omega arith;
        is =
            ap (λ (es : List Event). get_or es (count_of L i + k) no_event) (append_column L K i) ∙
            get_or-append_right (column L i) (column K i) (count_of L i) (count_of L i + k) no_event refl (omega arith) ∙ ap (λ (x : ℕ). get_or (column K i) x no_event) z ∙ a.is;
      }

  split_at : (k : ℕ) (e : Event) → At (append L K) i k e → At L i k e ⊎ ((h : count_of L i ≤ k) × At K i (k - count_of L i) e)
  split_at k e a =
      let c = append_count in
      let w = a.within in
      elim (cases_lt k (count_of L i)) [
        | inl l ↦
            inl (record { within = l; is = sym (get_or_append_left (column L i) (column K i) no_event k l) ∙ sym (ap (λ (es : List Event). get_or es k no_event) (append_column L K i)) ∙ a.is })
        | inr l ↦
            inr (
              l,
              record {
                within = omega arith;
                is =
                    sym (get_or-append_right (column L i) (column K i) (count_of L i) k no_event refl l) ∙
                    sym (ap (λ (es : List Event). get_or es k no_event) (append_column L K i)) ∙ a.is;
              },
            )
      ]

module _ (L K : List (List Event)) where
  raised : List (List Event)
  raised = map (map (moved (λ i. i) (span L))) K

  pub after_length : length (after L K) ≡ max (length L) (length K)
  unfolding raised
  after_length = append_length L raised ∙ ap (max (length L)) (length-map K (map (moved (λ i. i) (span L))))

  pub after_size : size (after L K) ≡ size L + size K
  unfolding raised
  after_size = append_size L raised ∙ ap (λ (n : ℕ). size L + n) (moved_size (λ i. i) (span L) K)

  pub after_span : span (after L K) ≡ span L + span K
  unfolding raised
  after_span = let r = raised_span (λ i. i) (span L) K in let a = append_span L raised in omega arith

  pub after_count : (i : ℕ) → count_of (after L K) i ≡ count_of L i + count_of K i
  unfolding raised
  after_count i = append_count L raised i ∙ ap (λ (n : ℕ). count_of L i + n) (map_count (moved (λ i. i) (span L)) K i)

  first : Part (after L K) L (λ i. i) 0
  unfolding raised
  first =
      record {
        place = λ i k. k;
        inside = λ i l. let n = after_length in omega arith;
        forth = λ i k e a. subst (At (after L K) i k) (sym (moved_nowhere (λ i. i) (λ i. refl) e)) (first_at L raised i k e a);
      }

  second : Part (after L K) K (λ i. i) (span L)
  unfolding raised
  second =
      record {
        place = λ i k. count_of L i + k;
        inside = λ i l. let n = after_length in omega arith;
        forth = λ i k e a. second_at L raised i k (moved (λ i. i) (span L) e) (map_at (moved (λ i. i) (span L)) K i k e a);
      }

  parts : (j l : ℕ) (e : Event) → At (after L K) j l e → From (after L K) L (λ i. i) 0 first j l e ⊎ From (after L K) K (λ i. i) (span L) second j l e
  unfolding raised first second
  parts j l e a =
      elim (split_at L raised j l e a) [
        | inl t ↦ inl (record { instance = j; index = l; source = e; there = t; here = (refl, refl); is = sym (moved_nowhere (λ i. i) (λ i. refl) e) })
        | inr t ↦
            let h = t.0 in
            let d = at_map (moved (λ i. i) (span L)) K j (l - count_of L j) e t.1 in
            inr (record { instance = j; index = l - count_of L j; source = d.0; there = d.1; here = (refl, omega arith); is = d.2 })
      ]

  pub after_sound : Sound L → Sound K → max (length L) (length K) ≤ 32 → size L + size K ≤ 4096 → span L + span K ≤ 4096 → Sound (after L K)
  after_sound sl sk narrow few numbers =
      let a = after_length in
      let b = after_size in
      union_sound (after L K) L K (λ i. i) (λ i. i) (span L) first second sl sk (omega arith) (omega arith) (omega arith) (omega arith) numbers parts

pub after_judged : (f g : Option Fault) (L K : List (List Event)) → Judged f L → Judged g K → Judged (join_trouble 3 f g (after L K)) (join_lists 3 f g (after L K))
after_judged f g L K jl jk =
    joined_judged 3 f g (after L K) L K jl jk (λ sl sk l.
    let a = after_length L K in
    let b = after_size L K in
    let c = after_span L K in
    after_sound L K sl sk (omega arith) (omega arith) (omega arith))

-- the events of one chart after another
module _ (L K : List (List Event)) (i k : ℕ) where
  pub after_first : k < count_of L i → event_of (after L K) i k ≡ event_of L i k
  after_first l = (first_at L (map (map (moved (λ i. i) (span L))) K) i k (event_of L i k) (record { within = l; is = refl })).is

  pub after_second : count_of L i ≤ k → event_of (after L K) i k ≡ moved (λ i. i) (span L) (event_of K i (k - count_of L i))
  after_second l =
      let g = moved (λ i. i) (span L) in
      let h = k - count_of L i in
      let z : count_of L i + h ≡ k = omega arith in
      elim (cases_lt h (count_of K i)) [
        | inl b ↦
            ap (event_of (after L K) i) (sym z) ∙
            (second_at L (map (map g) K) i h (g (event_of K i h)) (map_at g K i h (event_of K i h) (record { within = b; is = refl }))).is
        | inr b ↦
            past_count (after L K) i k (let n = after_count L K i in omega arith) ∙ ap g (sym (past_count K i h b))
      ]
