-- Fewer messages are on the way once the receiver has gone on.
use Rattle.std.proofs.Common.{◌≡◌, ℕ, zero, suc, ◌≤◌, Bool, true, false, cond, not, ◌&&◌, List, [], ◌∷◌, take, count_by, refl, inl, inr, arith}
use Rattle.std.proofs.lemmas.List.Sums.{sum_by-cons}
use Rattle.std.proofs.lemmas.Bool.{or_left, or_right, or_cases, and_parts, and_from, not-true, cases_Bool, not_from_false, both_ways}
use Rattle.charts.specs.declared.parts.Event.{Event}
use Rattle.charts.specs.Lists.{column}
use Rattle.orders.specs.Passing.{output_to, input_of, received, passing}

-- what is received stays received
received_more : (i m : ℕ) (es : List Event) (k l : ℕ) → k ≤ l → received i m (take k es) ≡ true → received i m (take l es) ≡ true
received_more i m es zero l h y = absurd (both_ways false refl y)
received_more i m [] (suc k) l h y = absurd (both_ways false refl y)
received_more i m (e ∷ es) (suc k) zero h y = absurd (omega arith)
received_more i m (e ∷ es) (suc k) (suc l) h y =
    elim (or_cases (input_of i m e) (received i m (take k es)) y) [
      | inl a ↦ or_left (input_of i m e) (received i m (take l es)) a
      | inr a ↦ or_right (input_of i m e) (received i m (take l es)) (received_more i m es k l (omega arith) a)
    ]

-- a count by a test that passes less often
count_less : (p q : Event → Bool) → ((e : Event) → q e ≡ true → p e ≡ true) → (es : List Event) → count_by q es ≤ count_by p es
count_less p q h [] = omega arith
count_less p q h (e ∷ es) =
    let a = sum_by-cons (λ x. cond (q x) 1 0) e es in
    let b = sum_by-cons (λ x. cond (p x) 1 0) e es in
    let r = count_less p q h es in
    let one = head (q e) (p e) (h e) in
    omega arith
  where
    head : (x y : Bool) → (x ≡ true → y ≡ true) → cond x 1 0 ≤ cond y 1 0
    head true true g = omega arith
    head true false g = absurd (both_ways false refl (g refl))
    head false true g = omega arith
    head false false g = omega arith

pub passing_less : (L : List (List Event)) (i j k l n : ℕ) → l ≤ n → passing L i j k n ≤ passing L i j k l
passing_less L i j k l n h =
    count_less (λ e. output_to j e && not (received i e.number (take l (column L j)))) (λ e. output_to j e && not (received i e.number (take n (column L j))))
    (λ e y.
    let p = and_parts (output_to j e) (not (received i e.number (take n (column L j)))) y in
    and_from (output_to j e) (not (received i e.number (take l (column L j)))) p.0 (still e p.1))
    (take k (column L i))
  where
    still : (e : Event) → not (received i e.number (take n (column L j))) ≡ true → not (received i e.number (take l (column L j))) ≡ true
    still e y =
        let a = received i e.number (take l (column L j)) in
        let b = received i e.number (take n (column L j)) in
        elim (cases_Bool a)
        [ inl t ↦ absurd (both_ways b (not-true b y) (received_more i e.number (column L j) l n h t)) | inr f ↦ not_from_false a f ]
