-- After any history an instance of a sound chart has finished, may run, or waits for exactly one.
use Rattle.std.proofs.Common.{◌≡◌, ℕ, zero, suc, ◌<◌, ◌≤◌, Bool, true, false, cond, ◌&&◌, eqb, ◌⊎◌, List, [], ◌∷◌, ◌++◌, length, get_or, sym, refl, ap, ◌∙◌, subst, ap₂, inl, inr, arith}
use Rattle.std.proofs.lemmas.Bool.{cases_eq, cases_lt, cases_Bool, eq-eqb, eqb-true, and_parts, and_from, cond-true, both_ways}
use Rattle.charts.specs.declared.parts.Event.{Event}
use Rattle.charts.specs.Events.{event, no_event, output, input, action, environment}
use Rattle.charts.specs.Lists.{At, column, count_of, event_of}
use Rattle.charts.specs.Sound.{Sound}
use Rattle.media.specs.Carry.{Carry}
use Rattle.orders.specs.Histories.{pos, Next}
use Rattle.orders.specs.Passing.{output_to, on_the_way, ahead}
use Rattle.orders.specs.May.{May, alone, sends, takes, Waits, receiver, sender, itself}
use Rattle.orders.specs.Orders.{Order}
use Rattle.orders.specs.States.{State, finished, may, waits}
use Rattle.orders.proofs.Positions.{pos_append, pos_step, pos_stay, by_steps}
use Rattle.orders.proofs.Growing.{steps_front, steps_last}
use Rattle.std.proofs.lemmas.List.{get_or_past}
use Rattle.orders.specs.Deciding.{output_place}

-- the first output of m to i is one
place_least : (i m : ℕ) (es : List Event) (k : ℕ) → k < length es → get_or es k no_event ≡ event output i m → (output_place i m es ≤ k) × (get_or es (output_place i m es) no_event ≡ event output i m)
place_least i m [] k l e = absurd (omega arith)
place_least i m (x ∷ es) zero l e =
    let t : (output_to i x && eqb x.number m) ≡ true =
    and_from (output_to i x) (eqb x.number m)
    (and_from (eqb x.kind output) (eqb x.peer i) (eq-eqb x.kind output (ap (λ (y : Event). y.kind) e)) (eq-eqb x.peer i (ap (λ (y : Event). y.peer) e)))
    (eq-eqb x.number m (ap (λ (y : Event). y.number) e)) in
    let z = cond-true (output_to i x && eqb x.number m) 0 (suc (output_place i m es)) t in
    (omega arith, ap (λ (n : ℕ). get_or (x ∷ es) n no_event) z ∙ e)
place_least i m (x ∷ es) (suc k) l e = go (output_to i x && eqb x.number m) refl (place_least i m es k (omega arith) e)
  where
    go : (b : Bool) → (output_to i x && eqb x.number m) ≡ b → (output_place i m es ≤ k) × (get_or es (output_place i m es) no_event ≡ event output i m) →
        (cond b 0 (suc (output_place i m es)) ≤ suc k) × (get_or (x ∷ es) (cond b 0 (suc (output_place i m es))) no_event ≡ event output i m)
    go true y r =
        let p = and_parts (output_to i x) (eqb x.number m) y in
        let q = and_parts (eqb x.kind output) (eqb x.peer i) p.0 in
        let a = eqb-true x.kind output q.0 in
        let b = eqb-true x.peer i q.1 in
        let c = eqb-true x.number m p.1 in
        (omega arith, λ t. record { kind = a t; peer = b t; number = c t })
    go false y r = let a = r.0 in (omega arith, r.1)

module _ (L : List (List Event)) (sound : Sound L) where
  -- the output of an input's message stands where the search finds it
  pub found : (s i m k : ℕ) → At L s k (event output i m) → output_place i m (column L s) ≡ k
  found s i m k a =
      let r = place_least i m (column L s) k a.within a.is in
      let l = r.0 in
      let w = a.within in
      let there : At L s (output_place i m (column L s)) (event output i m) = record { within = omega arith; is = r.1 } in
      (sound.one_output m s (output_place i m (column L s)) i s k i there a).1

  -- an instance with an event is one of the chart's
  pub at_width : (i k : ℕ) (e : Event) → At L i k e → i < length L
  at_width i k e a =
      elim (cases_lt i (length L)) [ inl l ↦ l | inr l ↦ absurd (let w = a.within in let z = ap length (get_or_past L i [] l) in omega arith) ]

  -- the next event of an instance is one
  same_next : (h : List ℕ) (i : ℕ) (e f : Event) → Next L h i e → Next L h i f → e ≡ f
  same_next h i e f a b = sym a.is ∙ b.is

  state_output : (M : Carry) (h : List ℕ) (i j m : ℕ) → Next L h i (event output j m) → State M L h i
  state_output M h i j m n =
      elim (sound.message_peers i (pos h i) (event output j m) n (inl refl)) [
        | inl l ↦
            elim (cases_Bool (M.send i j (on_the_way L h i j))) [ inl y ↦ may (sends j m n l y) | inr f ↦ waits j (receiver j m n l f) ]
        | inr env ↦ may (alone (event output j m) n (inr env))
      ]

  state_input : (M : Carry) (h : List ℕ) (i s m : ℕ) → Next L h i (event input s m) → State M L h i
  state_input M h i s m n =
      elim (sound.message_peers i (pos h i) (event input s m) n (inr refl)) [
        | inl l ↦
            let r = sound.inputs_matched m i (pos h i) s n l in
            elim (cases_lt r.0 (pos h s)) [
              | inl ran ↦
                  elim (cases_Bool (M.take s i (ahead L h s i r.0)))
                  [ inl y ↦ may (takes s m r.0 n l r.1 ran y) | inr f ↦ waits i (itself s m r.0 n l r.1 ran f) ]
              | inr not_yet ↦ waits s (sender s m r.0 n l r.1 not_yet)
            ]
        | inr env ↦ may (alone (event input s m) n (inr env))
      ]

  pub state : (M : Carry) (h : List ℕ) (i : ℕ) → State M L h i
  state M h i =
      elim (cases_lt (pos h i) (count_of L i)) [
        | inr done ↦ finished done
        | inl l ↦
            let e = event_of L i (pos h i) in
            let n : Next L h i e = record { within = l; is = refl } in
            let k = sound.kinds i (pos h i) e n in
            let k0 = k.0 in
            let k1 = k.1 in
            elim (cases_eq e.kind output) [
              | inl o ↦ state_output M h i e.peer e.number (subst (λ (x : ℕ). Next L h i (event x e.peer e.number)) o n)
              | inr p ↦
                  elim (cases_eq e.kind input) [
                    | inl q ↦ state_input M h i e.peer e.number (subst (λ (x : ℕ). Next L h i (event x e.peer e.number)) q n)
                    | inr q ↦ may (alone e n (inl (omega arith)))
                  ]
            ]
      ]

  -- an instance with a next event has not finished
  pub may_unfinished : (M : Carry) (h : List ℕ) (i : ℕ) → May M L h i → pos h i < count_of L i
  may_unfinished M h i (alone e n a) = n.within
  may_unfinished M h i (sends j m n l y) = n.within
  may_unfinished M h i (takes s m k n l sent ran y) = n.within

  pub waits_unfinished : (M : Carry) (h : List ℕ) (i j : ℕ) → Waits M L h i j → pos h i < count_of L i
  waits_unfinished M h i x (receiver j m n l f) = n.within
  waits_unfinished M h i x (sender s m k n l sent not_yet) = n.within
  waits_unfinished M h i x (itself s m k n l sent ran f) = n.within

  -- events that are the same have the same parts
  kind_of : (e f : Event) → e ≡ f → e.kind ≡ f.kind
  kind_of e f p = ap (λ (x : Event). x.kind) p

  peer_of : (e f : Event) → e ≡ f → e.peer ≡ f.peer
  peer_of e f p = ap (λ (x : Event). x.peer) p

  number_of : (e f : Event) → e ≡ f → e.number ≡ f.number
  number_of e f p = ap (λ (x : Event). x.number) p

  -- an event with an instance is neither an action nor with the environment
  not_alone : (e : Event) → e.kind ≤ input → e.peer < length L → (e.kind ≡ action) ⊎ (e.peer ≡ environment) → ⊥
  not_alone e k p (inl a) = omega arith
  not_alone e k p (inr v) = let few = sound.few_instances in omega arith

  -- an output has run or it has not
  late_or_ran : (h : List ℕ) (i s m k s' m' k' : ℕ) → Next L h i (event input s m) → Next L h i (event input s' m') → At L s k (event output i m) → At L s' k' (event output i m') →
      pos h s ≤ k → k' < pos h s' → ⊥
  late_or_ran h i s m k s' m' k' n o sent sent' late ran =
      let q = same_next h i (event input s m) (event input s' m') n o in
      let p = peer_of (event input s m) (event input s' m') q in
      let u = number_of (event input s m) (event input s' m') q in
      let same_place : k ≡ k' = sym (found s i m k sent) ∙ ap₂ (λ (a b : ℕ). output_place i a (column L b)) u p ∙ found s' i m' k' sent' in
      let far = ap (pos h) p in
      omega arith

  -- what may run does not wait
  pub may_or_waits : (M : Carry) (h : List ℕ) (i j : ℕ) → May M L h i → Waits M L h i j → ⊥
  may_or_waits M h i x (alone e n a) (receiver j m o l f) =
      let q = same_next h i e (event output j m) n o in
      let k = kind_of e (event output j m) q in
      let p = peer_of e (event output j m) q in
      not_alone e (omega arith) (omega arith) a
  may_or_waits M h i x (alone e n a) (sender s m k o l sent late) =
      let q = same_next h i e (event input s m) n o in
      let c = kind_of e (event input s m) q in
      let p = peer_of e (event input s m) q in
      not_alone e (omega arith) (omega arith) a
  may_or_waits M h i x (alone e n a) (itself s m k o l sent ran f) =
      let q = same_next h i e (event input s m) n o in
      let c = kind_of e (event input s m) q in
      let p = peer_of e (event input s m) q in
      not_alone e (omega arith) (omega arith) a
  may_or_waits M h i x (sends j m n l y) (receiver j' m' o l' f) =
      let p = peer_of (event output j m) (event output j' m') (same_next h i (event output j m) (event output j' m') n o) in
      both_ways (M.send i j (on_the_way L h i j)) (ap (λ (z : ℕ). M.send i z (on_the_way L h i z)) p ∙ f) y
  may_or_waits M h i x (sends j m n l y) (sender s m' k o l' sent late) =
      let c = kind_of (event output j m) (event input s m') (same_next h i (event output j m) (event input s m') n o) in omega arith
  may_or_waits M h i x (sends j m n l y) (itself s m' k o l' sent ran f) =
      let c = kind_of (event output j m) (event input s m') (same_next h i (event output j m) (event input s m') n o) in omega arith
  may_or_waits M h i x (takes s m k n l sent ran y) (receiver j m' o l' f) =
      let c = kind_of (event input s m) (event output j m') (same_next h i (event input s m) (event output j m') n o) in omega arith
  may_or_waits M h i x (takes s m k n l sent ran y) (sender s' m' k' o l' sent' late) =
      let q = same_next h i (event input s m) (event input s' m') n o in
      let p = peer_of (event input s m) (event input s' m') q in
      let u = number_of (event input s m) (event input s' m') q in
      late_or_ran h i s' m' k' s m k o n sent' sent late ran
  may_or_waits M h i x (takes s m k n l sent ran y) (itself s' m' k' o l' sent' ran' f) =
      let q = same_next h i (event input s m) (event input s' m') n o in
      let p = peer_of (event input s m) (event input s' m') q in
      let u = number_of (event input s m) (event input s' m') q in
      let same_place : k ≡ k' = sym (found s i m k sent) ∙ ap₂ (λ (a b : ℕ). output_place i a (column L b)) u p ∙ found s' i m' k' sent' in
      both_ways (M.take s i (ahead L h s i k)) (ap₂ (λ (a b : ℕ). M.take a i (ahead L h a i b)) p same_place ∙ f) y

  -- an instance waits for one
  pub waits_for_one : (M : Carry) (h : List ℕ) (i x y : ℕ) → Waits M L h i x → Waits M L h i y → x ≡ y
  waits_for_one M h i x y (receiver j m n l f) (receiver j' m' o l' f') =
      peer_of (event output j m) (event output j' m') (same_next h i (event output j m) (event output j' m') n o)
  waits_for_one M h i x y (receiver j m n l f) (sender s m' k o l' sent late) =
      absurd (let c = kind_of (event output j m) (event input s m') (same_next h i (event output j m) (event input s m') n o) in omega arith)
  waits_for_one M h i x y (receiver j m n l f) (itself s m' k o l' sent ran f') =
      absurd (let c = kind_of (event output j m) (event input s m') (same_next h i (event output j m) (event input s m') n o) in omega arith)
  waits_for_one M h i x y (sender s m k n l sent late) (receiver j m' o l' f') =
      absurd (let c = kind_of (event input s m) (event output j m') (same_next h i (event input s m) (event output j m') n o) in omega arith)
  waits_for_one M h i x y (sender s m k n l sent late) (sender s' m' k' o l' sent' late') =
      peer_of (event input s m) (event input s' m') (same_next h i (event input s m) (event input s' m') n o)
  waits_for_one M h i x y (sender s m k n l sent late) (itself s' m' k' o l' sent' ran f) = absurd (late_or_ran h i s m k s' m' k' n o sent sent' late ran)
  waits_for_one M h i x y (itself s m k n l sent ran f) (receiver j m' o l' f') =
      absurd (let c = kind_of (event input s m) (event output j m') (same_next h i (event input s m) (event output j m') n o) in omega arith)
  waits_for_one M h i x y (itself s m k n l sent ran f) (sender s' m' k' o l' sent' late) = absurd (late_or_ran h i s' m' k' s m k o n sent' sent late ran)
  waits_for_one M h i x y (itself s m k n l sent ran f) (itself s' m' k' o l' sent' ran' f') = refl

  -- in an order an input runs after its output
  pub input_after_output : (M : Carry) (h : List ℕ) → Order M L h → (i s m k l : ℕ) → At L i l (event input s m) → s < length L → At L s k (event output i m) → l < pos h i → k < pos h s
  input_after_output M h =
      by_steps (λ x. Order M L x → (i s m k l : ℕ) → At L i l (event input s m) → s < length L → At L s k (event output i m) → l < pos x i → k < pos x s)
      (λ o i s m k l a b sent ran. absurd (omega arith))
      (λ u x before o i s m k l a b sent ran.
      let so_far = before (steps_front (May M L) u (x ∷ []) o) i s m k l a b sent in
      let grown = pos_append u (x ∷ []) s in
      elim (cases_lt l (pos u i)) [
        | inl early ↦ let r = so_far early in omega arith
        | inr now ↦
            elim (cases_eq x i) [
              | inl is ↦
                  let moved = pos_step u x in
                  let there = ap (pos (u ++ (x ∷ []))) is in
                  let stood = ap (pos u) is in
                  let place : l ≡ pos u i = omega arith in
                  let may : May M L u i = subst (May M L u) is (steps_last (May M L) u x o) in
                  let r = ran_before M u i s m k may (subst (λ (z : ℕ). At L i z (event input s m)) place a) b sent in
                  omega arith
              | inr other ↦ absurd (let kept = pos_stay u x i other in omega arith)
            ]
      ])
      h
    where
      ran_before : (M : Carry) (u : List ℕ) (i s m k : ℕ) → May M L u i → Next L u i (event input s m) → s < length L → At L s k (event output i m) → k < pos u s
      ran_before M u i s m k (alone e n a) o b sent =
          absurd (
          let q = same_next u i e (event input s m) n o in
          let c = kind_of e (event input s m) q in
          let p = peer_of e (event input s m) q in
          not_alone e (omega arith) (omega arith) a)
      ran_before M u i s m k (sends j m' n l y) o b sent =
          absurd (let c = kind_of (event output j m') (event input s m) (same_next u i (event output j m') (event input s m) n o) in omega arith)
      ran_before M u i s m k (takes s' m' k' n l sent' ran y) o b sent =
          elim (cases_lt k (pos u s)) [ inl r ↦ r | inr late ↦ absurd (late_or_ran u i s m k s' m' k' o n sent sent' late ran) ]

  -- the one waited for has not finished
  pub waited_unfinished : (M : Carry) (h : List ℕ) (i x : ℕ) → Order M L h → Waits M L h i x → pos h x < count_of L x
  waited_unfinished M h i x o (receiver j m n l f) =
      let r = sound.outputs_matched m i (pos h i) j n l in
      let w = r.1.within in
      elim (cases_lt r.0 (pos h j)) [
        | inl ran ↦
            absurd (let z = input_after_output M h o j i m (pos h i) r.0 r.1 (at_width i (pos h i) (event output j m) n) n ran in omega arith)
        | inr late ↦ omega arith
      ]
  waited_unfinished M h i x o (sender s m k n l sent late) = let w = sent.within in omega arith
  waited_unfinished M h i x o (itself s m k n l sent ran f) = n.within
