-- How the messages on the way change with one step.
use Rattle.std.proofs.Common.{◌≡◌, ℕ, zero, suc, ◌+◌, ◌<◌, ◌≤◌, Bool, true, false, cond, not, ◌&&◌, ◌||◌, eqb, ltb, List, [], ◌∷◌, length, get_or, take, sym, refl, ap, ◌∙◌, subst, ap₂, inl, inr, add-one, arith}
use Rattle.std.proofs.lemmas.List.Sums.{sum_by_more}
use Rattle.std.proofs.lemmas.Bool.{cases_eq, cases_lt, cases_Bool, eq-eqb, ne_eqb, eqb-true, lt-ltb, le-ltb, and_parts, and_from, and_left, and_right, cond-true, cond-false, not_from_true, not_from_false, both_ways}
use Rattle.charts.specs.declared.parts.Event.{Event}
use Rattle.charts.specs.Events.{event, no_event, output, input}
use Rattle.charts.specs.Lists.{At, column, count_of, event_of}
use Rattle.charts.specs.Sound.{Sound}
use Rattle.orders.specs.Passing.{output_to, input_of, received, passing}
use Rattle.orders.specs.Deciding.{output_place, input_place}
use Rattle.orders.specs.Driving.{moved}
use Rattle.orders.proofs.Decided.{found, at_width}

-- 1 where the test passes
abbrev pub bit : Bool → ℕ
bit b = cond b 1 0

-- two tests that say the same are the same
pub same_test : (a b c d : ℕ) → (a < b → c < d) → (c < d → a < b) → ltb a b ≡ ltb c d
same_test a b c d f g =
    elim (cases_lt a b) [
      | inl l ↦ lt-ltb a b l ∙ sym (lt-ltb c d (f l))
      | inr n ↦ le-ltb a b n ∙ sym (elim (cases_lt c d) [ inl l ↦ absurd (let z = g l in omega arith) | inr k ↦ le-ltb c d k ])
    ]

-- a message is received among the first events where its input stands before their end
pub received_place : (i m : ℕ) (es : List Event) (l : ℕ) → l ≤ length es → received i m (take l es) ≡ ltb (input_place i m es) l
received_place i m es zero h = sym (le-ltb (input_place i m es) 0 (omega arith))
received_place i m [] (suc l) h = absurd (omega arith)
received_place i m (e ∷ es) (suc l) h = at (input_of i m e) (received_place i m es l (omega arith))
  where
    at : (b : Bool) → received i m (take l es) ≡ ltb (input_place i m es) l → (b || received i m (take l es)) ≡ ltb (cond b 0 (suc (input_place i m es))) (suc l)
    at true r = sym (lt-ltb 0 (suc l) (omega arith))
    at false r = r ∙ same_test (input_place i m es) l (suc (input_place i m es)) (suc l) (λ x. omega arith) (λ x. omega arith)

-- an event is the input of message m from x exactly by its parts
is_input : (x m : ℕ) (e : Event) → input_of x m e ≡ true → e ≡ event input x m
is_input x m e t =
    let p = and_parts (eqb e.kind input) (eqb e.peer x && eqb e.number m) t in
    let q = and_parts (eqb e.peer x) (eqb e.number m) p.1 in
    let a = eqb-true e.kind input p.0 in
    let b = eqb-true e.peer x q.0 in
    let c = eqb-true e.number m q.1 in
    λ t. record { kind = a t; peer = b t; number = c t }

input_is : (x m : ℕ) (e : Event) → e ≡ event input x m → input_of x m e ≡ true
input_is x m e p =
    and_from (eqb e.kind input) (eqb e.peer x && eqb e.number m) (eq-eqb e.kind input (ap (λ (y : Event). y.kind) p))
    (and_from (eqb e.peer x) (eqb e.number m) (eq-eqb e.peer x (ap (λ (y : Event). y.peer) p)) (eq-eqb e.number m (ap (λ (y : Event). y.number) p)))

is_output : (j : ℕ) (e : Event) → output_to j e ≡ true → e ≡ event output j e.number
is_output j e t =
    let p = and_parts (eqb e.kind output) (eqb e.peer j) t in
    let a = eqb-true e.kind output p.0 in
    let b = eqb-true e.peer j p.1 in
    λ t. record { kind = a t; peer = b t; number = e.number }

output_is : (j m : ℕ) (e : Event) → e ≡ event output j m → output_to j e ≡ true
output_is j m e p =
    and_from (eqb e.kind output) (eqb e.peer j) (eq-eqb e.kind output (ap (λ (y : Event). y.kind) p)) (eq-eqb e.peer j (ap (λ (y : Event). y.peer) p))

-- where the search for an input ends within the events, there it is
input_there : (x m : ℕ) (es : List Event) → input_place x m es < length es → input_of x m (get_or es (input_place x m es) no_event) ≡ true
input_there x m [] h = absurd (omega arith)
input_there x m (e ∷ es) h = at (input_of x m e) refl h (input_there x m es)
  where
    at : (b : Bool) → input_of x m e ≡ b → cond b 0 (suc (input_place x m es)) < suc (length es) →
        (input_place x m es < length es → input_of x m (get_or es (input_place x m es) no_event) ≡ true) →
        input_of x m (get_or (e ∷ es) (cond b 0 (suc (input_place x m es))) no_event) ≡ true
    at true t h r = t
    at false t h r = r (omega arith)

module _ (L : List (List Event)) (sound : Sound L) where
  -- one more event of the sender
  sender_more : (i j k l : ℕ) → k < count_of L i →
      passing L i j (k + 1) l ≡ passing L i j k l + cond (output_to j (event_of L i k) && not (received i (event_of L i k).number (take l (column L j)))) 1 0
  sender_more i j k l h =
      sum_by_more (λ e. cond (output_to j e && not (received i e.number (take l (column L j)))) 1 0) (column L i) k no_event h

  -- the input of a message stands where the search finds it
  pub input_found : (x i m l : ℕ) → At L i l (event input x m) → input_place x m (column L i) ≡ l
  input_found x i m l a =
      let w = a.within in
      let r = input_least (column L i) l w (input_is x m (event_of L i l) a.is) in
      let there : At L i (input_place x m (column L i)) (event input x m) =
      record { within = omega arith; is = is_input x m (event_of L i (input_place x m (column L i))) (input_there x m (column L i) (omega arith)) } in
      (sound.one_input m i (input_place x m (column L i)) x i l x there a).1
    where
      input_least : (es : List Event) (k : ℕ) → k < length es → input_of x m (get_or es k no_event) ≡ true → input_place x m es ≤ k
      input_least [] k h t = absurd (omega arith)
      input_least (e ∷ es) zero h t = let z = cond-true (input_of x m e) 0 (suc (input_place x m es)) t in omega arith
      input_least (e ∷ es) (suc k) h t = at (input_of x m e) (input_least es k (omega arith) t)
        where
          at : (b : Bool) → input_place x m es ≤ k → cond b 0 (suc (input_place x m es)) ≤ suc k
          at true r = omega arith
          at false r = omega arith

  -- one more event of the receiver changes nothing for a message that it does not input
  received_same : (x i m l : ℕ) → l < count_of L i → (input_place x m (column L i) ≡ l → ⊥) → received x m (take (l + 1) (column L i)) ≡ received x m (take l (column L i))
  received_same x i m l h n =
      received_place x m (column L i) (l + 1) (omega arith)
      ∙ same_test (input_place x m (column L i)) (l + 1) (input_place x m (column L i)) l (λ a. omega (arith, n)) (λ a. omega arith)
      ∙ sym (received_place x m (column L i) l (omega arith))

  module _ (x i k l : ℕ) (within : l < count_of L i) (among : k < count_of L x) where
    abbrev Input : ℕ → Bool
    Input m = input_of x m (event_of L i l)

    abbrev After : Bool
    After = not (received x (event_of L x k).number (take (l + 1) (column L i)))

    abbrev Before : Bool
    Before = not (received x (event_of L x k).number (take l (column L i)))

    abbrev there : ℕ
    there = output_place i (event_of L i l).number (column L x)

    sender_here : (m : ℕ) → event_of L x k ≡ event output i m → At L x k (event output i m)
    sender_here m e = record { within = among; is = e }

    -- the output of the message that event l of i inputs stands where it is found
    output_at : Input (event_of L i l).number ≡ true → At L x there (event output i (event_of L i l).number)
    output_at t =
        let m = (event_of L i l).number in
        let a : At L i l (event input x m) = record { within = within; is = is_input x m (event_of L i l) t } in
        let r = sound.inputs_matched m i l x a (at_width L sound x k (event_of L x k) (record { within = among; is = refl })) in
        subst (λ (z : ℕ). At L x z (event output i m)) (sym (found L sound x i m r.0 r.1)) r.1

    not_its_input : (Input (event_of L i l).number ≡ true → (event_of L x k).number ≡ (event_of L i l).number → ⊥) → input_place x (event_of L x k).number (column L i) ≡ l → ⊥
    not_its_input n p =
        let m = (event_of L x k).number in
        let t : input_of x m (event_of L i l) ≡ true =
        subst (λ (z : ℕ). input_of x m (event_of L i z) ≡ true) p (input_there x m (column L i) (omega arith)) in
        let e = is_input x m (event_of L i l) t in
        let same : (event_of L i l).number ≡ m = ap (λ (y : Event). y.number) e in
        n (subst (λ (z : ℕ). Input z ≡ true) (sym same) t) (sym same)

    one_change : bit (output_to i (event_of L x k) && After) + bit (Input (event_of L i l).number && ltb there (suc k))
        ≡ bit (output_to i (event_of L x k) && Before) + bit (Input (event_of L i l).number && ltb there k)
    one_change =
        elim (cases_Bool (Input (event_of L i l).number)) [
          | inr f ↦
              let a = cond-false {A = ℕ} (Input m && ltb there (suc k)) 1 0 (and_left (Input m) (ltb there (suc k)) f) in
              let b = cond-false {A = ℕ} (Input m && ltb there k) 1 0 (and_left (Input m) (ltb there k) f) in
              let c = quiet (not_its_input (λ t _. both_ways (Input m) f t)) in
              omega arith
          | inl t ↦
              elim (cases_Bool (output_to i (event_of L x k))) [
                | inr f ↦
                    let a = cond-false {A = ℕ} (output_to i (event_of L x k) && After) 1 0 (and_left (output_to i (event_of L x k)) After f) in
                    let b = cond-false {A = ℕ} (output_to i (event_of L x k) && Before) 1 0 (and_left (output_to i (event_of L x k)) Before f) in
                    let elsewhere : there ≡ k → ⊥ = λ p. both_ways (output_to i (event_of L x k)) f (output_is i m (event_of L x k) (here t p)) in
                    let c = apart elsewhere in
                    omega arith
                | inl o ↦
                    elim (cases_eq (event_of L x k).number m) [
                      | inr n ↦
                          let c = quiet (not_its_input (λ _ p. n p)) in
                          let d = apart (λ p. n (ap (λ (y : Event). y.number) (here t p))) in
                          omega arith
                      | inl p ↦ meets t o p
                    ]
              ]
        ]
      where
        m : ℕ
        m = (event_of L i l).number

        here : Input m ≡ true → there ≡ k → event_of L x k ≡ event output i m
        here t p = subst (λ (z : ℕ). event_of L x z ≡ event output i m) p (output_at t).is

        quiet : (input_place x (event_of L x k).number (column L i) ≡ l → ⊥) → bit (output_to i (event_of L x k) && After) ≡ bit (output_to i (event_of L x k) && Before)
        quiet n = ap (λ (b : Bool). bit (output_to i (event_of L x k) && not b)) (received_same x i (event_of L x k).number l within n)

        apart : (there ≡ k → ⊥) → bit (Input m && ltb there (suc k)) ≡ bit (Input m && ltb there k)
        apart n = ap (λ (b : Bool). bit (Input m && b)) (same_test there (suc k) there k (λ a. omega (arith, n)) (λ a. omega arith))

        meets : Input m ≡ true → output_to i (event_of L x k) ≡ true → (event_of L x k).number ≡ m →
            bit (output_to i (event_of L x k) && After) + bit (Input m && ltb there (suc k)) ≡ bit (output_to i (event_of L x k) && Before) + bit (Input m && ltb there k)
        meets t o p =
            let f = event_of L x k in
            let out : f ≡ event output i m = is_output i f o ∙ ap (event output i) p in
            let at : there ≡ k = found L sound x i m k (sender_here m out) in
            let place : input_place x f.number (column L i) ≡ l =
            ap (λ (z : ℕ). input_place x z (column L i)) p ∙ input_found x i m l (record { within = within; is = is_input x m (event_of L i l) t }) in
            let after : received x f.number (take (l + 1) (column L i)) ≡ true =
            received_place x f.number (column L i) (l + 1) (omega arith) ∙ lt-ltb (input_place x f.number (column L i)) (l + 1) (omega arith) in
            let before : received x f.number (take l (column L i)) ≡ false =
            received_place x f.number (column L i) l (omega arith) ∙ le-ltb (input_place x f.number (column L i)) l (omega arith) in
            let a = cond-false {A = ℕ} (output_to i f && After) 1 0 (and_right (output_to i f) After (not_from_true (received x f.number (take (l + 1) (column L i))) after)) in
            let b = cond-true {A = ℕ} (output_to i f && Before) 1 0 (and_from (output_to i f) Before o (not_from_false (received x f.number (take l (column L i))) before)) in
            let c = cond-true {A = ℕ} (Input m && ltb there (suc k)) 1 0 (and_from (Input m) (ltb there (suc k)) t (lt-ltb there (suc k) (omega arith))) in
            let d = cond-false {A = ℕ} (Input m && ltb there k) 1 0 (and_right (Input m) (ltb there k) (le-ltb there k (omega arith))) in
            omega arith

  -- one more event of the receiver, event l of i: the message that it inputs is on the way no more, where its output is among the sender's first k events
  receiver_more : (x i k l : ℕ) → l < count_of L i → k ≤ count_of L x →
      passing L x i k (l + 1) + cond (input_of x (event_of L i l).number (event_of L i l) && ltb (output_place i (event_of L i l).number (column L x)) k) 1 0 ≡ passing L x i k l
  receiver_more x i zero l h w =
      let t = input_of x (event_of L i l).number (event_of L i l) in
      let u = ltb (output_place i (event_of L i l).number (column L x)) 0 in
      let c = cond-false {A = ℕ} (t && u) 1 0 (and_right t u (le-ltb (output_place i (event_of L i l).number (column L x)) 0 (omega arith))) in
      omega arith
  receiver_more x i (suc k) l h w =
      let r = receiver_more x i k l h (omega arith) in
      let a = sender_more x i k (l + 1) (omega arith) in
      let b = sender_more x i k l (omega arith) in
      let a' = ap (λ (n : ℕ). passing L x i n (l + 1)) (add-one k) in
      let b' = ap (λ (n : ℕ). passing L x i n l) (add-one k) in
      let c = one_change x i k l h (omega arith) in
      omega arith

  module _ (p : ℕ → ℕ) (i : ℕ) where
    -- the message that the next event of i outputs to j comes to be on the way, unless it was received already
    abbrev pub plus : ℕ → ℕ → ℕ
    plus x j = bit (eqb i x && (output_to j (event_of L i (p i)) && not (received i (event_of L i (p i)).number (take (p j) (column L j)))))

    -- the message that the next event of i inputs from x is on the way no more, where it was sent
    abbrev pub minus : ℕ → ℕ → ℕ
    minus x j = bit (eqb i j && (input_of x (event_of L i (p i)).number (event_of L i (p i)) && ltb (output_place i (event_of L i (p i)).number (column L x)) (p x)))

    -- what is on the way from x to j after one step of i
    pub tally : ((j : ℕ) → p j ≤ count_of L j) → p i < count_of L i → (x j : ℕ) →
        passing L x j (moved p i x) (moved p i j) + minus x j ≡ passing L x j (p x) (p j) + plus x j
    tally within left x j =
        elim (cases_eq i x) [
          | inl sender ↦ elim (cases_eq i j) [ inl receiver ↦ both sender receiver | inr n ↦ sending sender n ]
          | inr n ↦ elim (cases_eq i j) [ inl receiver ↦ receiving n receiver | inr m ↦ neither n m ]
        ]
      where
        inp : ℕ → Bool
        inp y = input_of y (event_of L i (p i)).number (event_of L i (p i))

        ran : ℕ → ℕ → Bool
        ran y k = ltb (output_place i (event_of L i (p i)).number (column L y)) k

        new : ℕ → Bool
        new y = output_to y (event_of L i (p i)) && not (received i (event_of L i (p i)).number (take (p y) (column L y)))

        stays : (y : ℕ) → (i ≡ y → ⊥) → moved p i y ≡ p y
        stays y n = let c = cond-false {A = ℕ} (eqb i y) 1 0 (ne_eqb i y n) in omega arith

        steps : moved p i i ≡ p i + 1
        steps = let c = cond-true {A = ℕ} (eqb i i) 1 0 (eq-eqb i i refl) in omega arith

        no_plus : (i ≡ x → ⊥) → plus x j ≡ 0
        no_plus n = cond-false {A = ℕ} (eqb i x && new j) 1 0 (and_left (eqb i x) (new j) (ne_eqb i x n))

        no_minus : (i ≡ j → ⊥) → minus x j ≡ 0
        no_minus n = cond-false {A = ℕ} (eqb i j && (inp x && ran x (p x))) 1 0 (and_left (eqb i j) (inp x && ran x (p x)) (ne_eqb i j n))

        plus_is : i ≡ x → plus x j ≡ bit (new j)
        plus_is e = ap (λ (b : Bool). bit (b && new j)) (eq-eqb i x e)

        minus_is : i ≡ j → minus x j ≡ bit (inp x && ran x (p x))
        minus_is e = ap (λ (b : Bool). bit (b && (inp x && ran x (p x)))) (eq-eqb i j e)

        neither : (i ≡ x → ⊥) → (i ≡ j → ⊥) → passing L x j (moved p i x) (moved p i j) + minus x j ≡ passing L x j (p x) (p j) + plus x j
        neither n m =
            let a = no_plus n in
            let b = no_minus m in
            let c = ap₂ (passing L x j) (stays x n) (stays j m) in
            omega arith

        sending : i ≡ x → (i ≡ j → ⊥) → passing L x j (moved p i x) (moved p i j) + minus x j ≡ passing L x j (p x) (p j) + plus x j
        sending e m =
            let a = plus_is e in
            let b = no_minus m in
            let there = ap (moved p i) (sym e) ∙ steps in
            let c = ap₂ (passing L x j) there (stays j m) in
            let d = sender_more i j (p i) (p j) left in
            let f = ap (λ (y : ℕ). passing L y j (p i + 1) (p j)) e in
            let g = ap (λ (y : ℕ). passing L y j (p y) (p j)) e in
            omega arith

        receiving : (i ≡ x → ⊥) → i ≡ j → passing L x j (moved p i x) (moved p i j) + minus x j ≡ passing L x j (p x) (p j) + plus x j
        receiving n e =
            let a = no_plus n in
            let b = minus_is e in
            let there = ap (moved p i) (sym e) ∙ steps in
            let c = ap₂ (passing L x j) (stays x n) there in
            let d = receiver_more x i (p x) (p i) left (within x) in
            let f = ap (λ (y : ℕ). passing L x y (p x) (p i + 1)) e in
            let g = ap (λ (y : ℕ). passing L x y (p x) (p y)) e in
            omega arith

        -- an event is not both the input of a message and its output
        not_itself : inp i ≡ true → output_place i (event_of L i (p i)).number (column L i) ≡ p i → ⊥
        not_itself t at =
            let m = (event_of L i (p i)).number in
            let out = output_at i i (p i) (p i) left left t in
            let kind = ap (λ (y : Event). y.kind) (is_input i m (event_of L i (p i)) t) in
            let other = ap (λ (y : Event). y.kind) (subst (λ (z : ℕ). event_of L i z ≡ event output i m) at out.is) in
            omega arith

        same_ran : bit (inp i && ran i (p i + 1)) ≡ bit (inp i && ran i (p i))
        same_ran =
            elim (cases_Bool (inp i)) [
              | inr f ↦
                  let a = cond-false {A = ℕ} (inp i && ran i (p i + 1)) 1 0 (and_left (inp i) (ran i (p i + 1)) f) in
                  let b = cond-false {A = ℕ} (inp i && ran i (p i)) 1 0 (and_left (inp i) (ran i (p i)) f) in
                  omega arith
              | inl t ↦
                  ap (λ (b : Bool). bit (inp i && b))
                  (let n = not_itself t in
                  let o = output_place i (event_of L i (p i)).number (column L i) in
                  same_test o (p i + 1) o (p i) (λ a. omega (arith, n)) (λ a. omega arith))
            ]

        both : i ≡ x → i ≡ j → passing L x j (moved p i x) (moved p i j) + minus x j ≡ passing L x j (p x) (p j) + plus x j
        both e f =
            let a = plus_is e in
            let b = minus_is f in
            let c = ap₂ (passing L x j) (ap (moved p i) (sym e) ∙ steps) (ap (moved p i) (sym f) ∙ steps) in
            let d = sender_more i i (p i) (p i) left in
            let g = receiver_more i i (p i + 1) (p i) left (omega arith) in
            let s = same_ran in
            let u = ap₂ (λ (y z : ℕ). passing L y z (p i + 1) (p i + 1)) e f in
            let v = ap₂ (λ (y z : ℕ). passing L y z (p y) (p z)) e f in
            let w = ap (λ (y : ℕ). bit (inp y && ran y (p y))) e in
            let n = ap (λ (y : ℕ). bit (new y)) f in
            omega arith
