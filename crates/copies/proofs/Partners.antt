-- The other event of a message, and its place as it was noted.
use Rattle.std.proofs.Common.{◌≡◌, ℕ, zero, suc, ◌+◌, ◌<◌, ◌≤◌, Bool, cond, ltb, List, length, get_or, take, count_by, Some, sym, refl, ap, ◌∙◌, inl, inr, arith}
use Rattle.std.proofs.lemmas.List.{take_all}
use Rattle.std.proofs.lemmas.List.Sums.{sum_by_more}
use Rattle.std.proofs.lemmas.Bool.{cases_lt}
use Rattle.charts.specs.declared.parts.Event.{Event}
use Rattle.charts.specs.Events.{event, output, input}
use Rattle.charts.specs.Lists.{At, column, count_of}
use Rattle.charts.specs.Sound.{Sound}
use Rattle.messages.specs.declared.ends.End.TheVariants.{Output, Input}
use Rattle.messages.specs.declared.places.MessagePlaces.{MessagePlaces}
use Rattle.messages.specs.Places.{place_of}
use Rattle.orders.specs.Passing.{received}
use Rattle.orders.specs.Deciding.{input_place, sent_at}
use Rattle.orders.proofs.Decided.{found}
use Rattle.orders.proofs.Tallying.{bit, same_test, received_place, input_found}
use Rattle.copies.specs.Noted.{Noted}

-- tests that agree place by place count the same
pub same_count : {X Y : Type 0} (p : X → Bool) (q : Y → Bool) (xs : List X) (ys : List Y) (d : X) (e : Y) (n : ℕ) → n ≤ length xs → n ≤ length ys →
    ((k : ℕ) → k < n → p (get_or xs k d) ≡ q (get_or ys k e)) → count_by p (take n xs) ≡ count_by q (take n ys)
same_count p q xs ys d e zero hx hy same = refl
same_count p q xs ys d e (suc n) hx hy same =
    let one : n + 1 ≡ suc n = omega arith in
    let rest = same_count p q xs ys d e n (omega arith) (omega arith) (λ k h. same k (omega arith)) in
    let x = sum_by_more (λ x. cond (p x) 1 0) xs n d (omega arith) in
    let y = sum_by_more (λ y. cond (q y) 1 0) ys n e (omega arith) in
    let z = ap bit (same n (omega arith)) in
    ap (λ (m : ℕ). count_by p (take m xs)) (sym one) ∙ (omega arith) ∙ ap (λ (m : ℕ). count_by q (take m ys)) one

module _ (L : List (List Event)) (sound : Sound L) where
  -- the message that an output on s sends to i is received among the first k events of i exactly when its input stands before k
  pub output_received : (s l i m : ℕ) → At L s l (event output i m) → i < length L → (k : ℕ) → received s m (take k (column L i)) ≡ ltb (input_place s m (column L i)) k
  output_received s l i m a w k =
      let r = sound.outputs_matched m s l i a w in
      let p = input_found L sound s i m r.0 r.1 in
      let h = r.1.within in
      elim (cases_lt k (count_of L i)) [
        | inl n ↦ received_place s m (column L i) k (omega arith)
        | inr n ↦
            ap (received s m) (take_all k (column L i) n ∙ sym (take_all (count_of L i) (column L i) (omega arith)))
            ∙ received_place s m (column L i) (count_of L i) (omega arith)
            ∙ same_test (input_place s m (column L i)) (count_of L i) (input_place s m (column L i)) k (λ x. omega arith) (λ x. omega arith)
      ]

  input_event : (i k : ℕ) (e : Event) → At L i k e → e.kind ≡ input → At L i k (event input e.peer e.number)
  input_event i k e a of = record { within = a.within; is = a.is ∙ (λ t. record { kind = of t; peer = e.peer; number = e.number }) }

  -- the output of an input between instances stands on the sender
  pub sent_within : (i k : ℕ) (e : Event) → At L i k e → e.kind ≡ input → e.peer < length L → sent_at L i e < count_of L e.peer
  sent_within i k e a of h =
      let r = sound.inputs_matched e.number i k e.peer (input_event i k e a of) h in
      let p = found L sound e.peer i e.number r.0 r.1 in
      let w = r.1.within in
      omega arith

  module _ (m : MessagePlaces) (noted : Noted L m) where
    -- the input of an output between instances
    pub input_noted : (i k j n : ℕ) → At L i k (event output j n) → j < length L → place_of m Input n ≡ Some (input_place i n (column L j))
    input_noted i k j n a h =
        let r = sound.outputs_matched n i k j a h in
        noted j r.0 (event input i n) Input r.1 h refl ∙ ap Some (sym (input_found L sound i j n r.0 r.1))

    -- the output of an input between instances
    pub output_noted : (i k : ℕ) (e : Event) → At L i k e → e.kind ≡ input → e.peer < length L → place_of m Output e.number ≡ Some (sent_at L i e)
    output_noted i k e a of h =
        let r = sound.inputs_matched e.number i k e.peer (input_event i k e a of) h in
        noted e.peer r.0 (event output i e.number) Output r.1 h refl ∙ ap Some (sym (found L sound e.peer i e.number r.0 r.1))
