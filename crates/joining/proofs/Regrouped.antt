-- Joins do not depend on their brackets, and an empty chart changes nothing.
use Rattle.std.proofs.Common.{◌≡◌, ℕ, ◌+◌, ◌<◌, ◌≤◌, ◌⊎◌, List, [], ◌∷◌, ◌++◌, map, length, None, sym, refl, ap, ◌∙◌, ap₂, inl, inr, arith}
use Rattle.std.proofs.lemmas.List.{append_assoc, append-nil, map-append}
use Rattle.std.proofs.lemmas.Bool.{cases_Bool, cases_eq, cond-true, cond-false}
use Rattle.charts.specs.declared.parts.Event.{Event}
use Rattle.charts.specs.Events.{environment, is_message, no_event}
use Rattle.charts.specs.Lists.{column, count_of, event_of}
use Rattle.charts.specs.Sound.{Sound}
use Rattle.charts.proofs.Bounds.{peer_small}
use Rattle.std.specs.List.{AllByRecursion}
use Rattle.std.proofs.ByRecursion.{All-from_get_or}
use Rattle.charts.specs.Span.{span}
use Rattle.joining.specs.Moves.{risen, named, moved}
use Rattle.joining.specs.After.{append, after}
use Rattle.joining.specs.Beside.{beside}
use Rattle.joining.proofs.Moving.{moved_nowhere, named_environment, named_instance}
use Rattle.joining.proofs.Afters.{after_span}
use Rattle.joining.proofs.Besides.{beside_length, beside_span}

map_same : {X : Type 0} (g : X → X) → ((x : X) → g x ≡ x) → (xs : List X) → map g xs ≡ xs
map_same g h [] = refl
map_same g h (x ∷ xs) = ap₂ ◌∷◌ (h x) (map_same g h xs)

maps_same : (g : Event → Event) → ((e : Event) → g e ≡ e) → (L : List (List Event)) → map (map g) L ≡ L
maps_same g h L = map_same (map g) (map_same g h) L

-- an empty chart before or after another
pub after_empty_first : (K : List (List Event)) → after [] K ≡ K
after_empty_first K = maps_same (moved (λ i. i) 0) (moved_nowhere (λ i. i) (λ i. refl)) K

append_empty : (L : List (List Event)) → append L [] ≡ L
append_empty [] = refl
append_empty (es ∷ L) = refl

pub after_empty_second : (L : List (List Event)) → after L [] ≡ L
after_empty_second L = append_empty L

-- an empty chart on either side of another
pub beside_empty_left : (K : List (List Event)) → beside [] K ≡ K
beside_empty_left K = maps_same (moved (λ i. i + 0) 0) (moved_nowhere (λ i. i + 0) (λ i. omega arith)) K

pub beside_empty_right : (L : List (List Event)) → beside L [] ≡ L
beside_empty_right L = append-nil L

-- raised twice is raised by the sum
risen_twice : (s r : ℕ) (e : Event) → risen s (moved (λ i. i) r e) ≡ risen (s + r) e
risen_twice s r e =
    elim (cases_Bool (is_message e)) [
      | inl y ↦
          cond-true (is_message e) (risen r e + s) (risen r e) y ∙ ap (λ (n : ℕ). n + s) (cond-true (is_message e) (e.number + r) e.number y) ∙
          (let z : e.number + r + s ≡ e.number + (s + r) = omega arith in z) ∙ sym (cond-true (is_message e) (e.number + (s + r)) e.number y)
      | inr n ↦
          cond-false (is_message e) (risen r e + s) (risen r e) n ∙ cond-false (is_message e) (e.number + r) e.number n ∙
          sym (cond-false (is_message e) (e.number + (s + r)) e.number n)
    ]

named_once : (p : ℕ) → named (λ i. i) (named (λ i. i) p) ≡ named (λ i. i) p
named_once p =
    elim (cases_eq p environment) [
      | inl y ↦ let a = named_environment (λ i. i) p y in named_environment (λ i. i) (named (λ i. i) p) a ∙ sym a
      | inr n ↦ let a = named_instance (λ i. i) p n in ap (named (λ i. i)) a
    ]

raised_twice : (s r : ℕ) (e : Event) → moved (λ i. i) s (moved (λ i. i) r e) ≡ moved (λ i. i) (s + r) e
raised_twice s r e = λ t. record { kind = e.kind; peer = named_once e.peer t; number = risen_twice s r e t }

map_twice : {X : Type 0} (f g h : X → X) → ((x : X) → f (g x) ≡ h x) → (xs : List X) → map f (map g xs) ≡ map h xs
map_twice f g h e [] = refl
map_twice f g h e (x ∷ xs) = ap₂ ◌∷◌ (e x) (map_twice f g h e xs)

map_appended : (g : Event → Event) (L K : List (List Event)) → map (map g) (append L K) ≡ append (map (map g) L) (map (map g) K)
map_appended g [] K = refl
map_appended g (es ∷ L) [] = refl
map_appended g (es ∷ L) (fs ∷ K) = ap₂ ◌∷◌ (map-append g es fs) (map_appended g L K)

append_regrouped : (L K M : List (List Event)) → append (append L K) M ≡ append L (append K M)
append_regrouped [] K M = refl
append_regrouped (es ∷ L) [] M = refl
append_regrouped (es ∷ L) (fs ∷ K) [] = refl
append_regrouped (es ∷ L) (fs ∷ K) (gs ∷ M) = ap₂ ◌∷◌ (append_assoc es fs gs) (append_regrouped L K M)

-- three charts one after the other
pub after_regrouped : (L K M : List (List Event)) → after (after L K) M ≡ after L (after K M)
after_regrouped L K M =
    let s = span L in
    let r = span K in
    let g = moved (λ i. i) s in
    let h = moved (λ i. i) r in
    ap (λ (n : ℕ). append (after L K) (map (map (moved (λ i. i) n)) M)) (after_span L K) ∙
    append_regrouped L (map (map g) K) (map (map (moved (λ i. i) (s + r))) M) ∙
    ap (append L)
    (ap (append (map (map g) K)) (sym (map_twice (map g) (map h) (map (moved (λ i. i) (s + r))) (map_twice g h (moved (λ i. i) (s + r)) (raised_twice s r)) M)) ∙
    sym (map_appended g K (map (map h) M)))

-- a peer that another move does not take for the environment
Fine : Event → Type 0
Fine e = (e.peer ≡ environment) ⊎ (e.peer < 32)

fine_at : (M : List (List Event)) → Sound M → (i k : ℕ) → k < count_of M i → Fine (event_of M i k)
unfolding Fine
fine_at M s i k l =
    elim (cases_eq (event_of M i k).peer environment)
    [ inl y ↦ inl y | inr n ↦ inr (peer_small M i k None s n) ]

fine_all : (M : List (List Event)) → Sound M → AllByRecursion (AllByRecursion Fine) M
fine_all M s =
    All-from_get_or (AllByRecursion Fine) M [] (λ i l. All-from_get_or Fine (column M i) no_event (λ k h. fine_at M s i k h))

map_twice_where : {X : Type 0} (P : X → Type 0) (f g h : X → X) → ((x : X) → P x → f (g x) ≡ h x) → (xs : List X) → AllByRecursion P xs → map f (map g xs) ≡ map h xs
map_twice_where P f g h e [] a = refl
map_twice_where P f g h e (x ∷ xs) a = ap₂ ◌∷◌ (e x a.0) (map_twice_where P f g h e xs a.1)

shifted_peer : (w v p : ℕ) → v ≤ 32 → (p ≡ environment) ⊎ (p < 32) → named (λ i. i + w) (named (λ i. i + v) p) ≡ named (λ i. i + (w + v)) p
shifted_peer w v p few (inl y) =
    named_environment (λ i. i + w) (named (λ i. i + v) p) (named_environment (λ i. i + v) p y) ∙ sym (named_environment (λ i. i + (w + v)) p y)
shifted_peer w v p few (inr l) =
    let a = named_instance (λ i. i + v) p (λ y. omega arith) in
    let b = named_instance (λ i. i + w) (p + v) (λ y. omega arith) in
    let c = named_instance (λ i. i + (w + v)) p (λ y. omega arith) in
    ap (named (λ i. i + w)) a ∙ b ∙ (let z : p + v + w ≡ p + (w + v) = omega arith in z) ∙ sym c

shifted_twice : (w v s r : ℕ) (e : Event) → v ≤ 32 → Fine e → moved (λ i. i + w) s (moved (λ i. i + v) r e) ≡ moved (λ i. i + (w + v)) (s + r) e
unfolding Fine
shifted_twice w v s r e few p = λ t. record { kind = e.kind; peer = shifted_peer w v e.peer few p t; number = risen_twice s r e t }

-- three charts side by side
pub beside_regrouped : (L K M : List (List Event)) → Sound K → Sound M → beside (beside L K) M ≡ beside L (beside K M)
beside_regrouped L K M sk sm =
    let w = length L in
    let v = length K in
    let s = span L in
    let r = span K in
    let g = moved (λ i. i + w) s in
    let h = moved (λ i. i + v) r in
    let both = moved (λ i. i + (w + v)) (s + r) in
    let few = sk.few_instances in
    ap₂ (λ (x n : ℕ). beside L K ++ map (map (moved (λ i. i + x) n)) M) (beside_length L K) (beside_span L K) ∙
    append_assoc L (map (map g) K) (map (map both) M) ∙
    ap (λ (X : List (List Event)). L ++ X)
    (ap (λ (X : List (List Event)). map (map g) K ++ X)
    (sym (map_twice_where (AllByRecursion Fine) (map g) (map h) (map both) (λ es a. map_twice_where Fine g h both (λ e p. shifted_twice w v s r e few p) es a) M (fine_all M sm))) ∙
    sym (map-append (map g) K (map (map h) M)))
