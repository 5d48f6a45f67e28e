-- What is computed of the positions is what may run and what is waited for.
use Rattle.std.proofs.Common.{◌≡◌, ℕ, ◌<◌, Bool, true, false, cond, ◌&&◌, ◌||◌, eqb, ltb, ◌⊎◌, List, length, sym, refl, ap, ◌∙◌, subst, ap₂, ⊎_elim, arith}
use mathlib.Core.Path.{fun_ext}
use Rattle.std.proofs.lemmas.Bool.{eq-eqb, ne_eqb, lt-ltb, le-ltb, ltb-true, and_parts, and_from, and_left, and_right, or_left, or_right, cond-true, cond-false, both_ways}
use Rattle.charts.specs.declared.parts.Event.{Event}
use Rattle.charts.specs.Events.{event, output, input, action, environment}
use Rattle.charts.specs.Lists.{At, count_of, event_of}
use Rattle.charts.specs.Sound.{Sound}
use Rattle.media.specs.Carry.{Carry}
use Rattle.orders.specs.Histories.{pos, Next}
use Rattle.orders.specs.Passing.{passing, on_the_way, ahead}
use Rattle.orders.specs.May.{May, alone, sends, takes, Waits, receiver, sender, itself}
use Rattle.orders.specs.States.{State, finished, may, waits}
use Rattle.orders.specs.Deciding.{sent_at, may_now, may_run_at, may_now_at, waits_for, waits_for_at, waits_now}
use Rattle.orders.proofs.Decided.{found, state}
use Rattle.orders.proofs.Monotone.{may_stays}

-- what is computed of a history is what is computed at its positions
pub may_now_pos : (M : Carry) (L : List (List Event)) (h : List ℕ) (i : ℕ) → may_now M L h i ≡ may_now_at M L (pos h) i
may_now_pos M L h i = refl

pub waits_for_pos : (L : List (List Event)) (h : List ℕ) (i : ℕ) (e : Event) → waits_for L h i e ≡ waits_for_at L (pos h) i e
waits_for_pos L h i e = refl

-- histories with the same positions have the same next events, what may run after them is the same, and so are the waits
module _ (M : Carry) (L : List (List Event)) (h g : List ℕ) (same : (j : ℕ) → pos h j ≡ pos g j) (i : ℕ) where
  pub next_level : (e : Event) → Next L h i e → Next L g i e
  next_level e n = subst (λ (k : ℕ). At L i k e) (same i) n

  pub may_level : May M L h i → May M L g i
  may_level y = may_stays M L h g i (λ j. let s = same j in omega arith) (same i) y

  pub waits_level : (x : ℕ) → Waits M L h i x → Waits M L g i x
  waits_level x (receiver j m n l f) =
      receiver j m (next_level (event output j m) n) l (subst (λ (p : ℕ → ℕ). M.send i j (passing L i j (p i) (p j)) ≡ false) (fun_ext same) f)
  waits_level x (sender s m k n l sent late) = sender s m k (next_level (event input s m) n) l sent (let e = same s in omega arith)
  waits_level x (itself s m k n l sent ran f) =
      itself s m k (next_level (event input s m) n) l sent (let e = same s in omega arith)
      (subst (λ (p : ℕ). M.take s i (passing L s i k p) ≡ false) (same i) f)

module _ (M : Carry) (L : List (List Event)) (sound : Sound L) where
  -- the answer is that of the next event
  next_answer : (h : List ℕ) (i : ℕ) (e : Event) (b : Bool) → Next L h i e → may_run_at M L (pos h) i e ≡ b → may_now_at M L (pos h) i ≡ b
  next_answer h i e b n y =
      ap₂ (λ (x z : Bool). x && z) (lt-ltb (pos h i) (count_of L i) n.within) (ap (may_run_at M L (pos h) i) n.is ∙ y)

  next_wait : (h : List ℕ) (i j : ℕ) (e : Event) → Next L h i e → waits_for_at L (pos h) i e ≡ j → j ≡ waits_now L (pos h) i
  next_wait h i j e n y = sym (ap (waits_for_at L (pos h) i) n.is ∙ y)

  -- an instance is not the environment
  not_environment : (j : ℕ) → j < length L → eqb j environment ≡ false
  not_environment j l = ne_eqb j environment (λ e. let few = sound.few_instances in omega arith)

  output_answer : (h : List ℕ) (i j m : ℕ) → j < length L → may_run_at M L (pos h) i (event output j m) ≡ M.send i j (on_the_way L h i j)
  output_answer h i j m l = cond-false (eqb j environment) true (M.send i j (on_the_way L h i j)) (not_environment j l)

  input_answer : (h : List ℕ) (i s m k : ℕ) → s < length L → At L s k (event output i m) →
      may_run_at M L (pos h) i (event input s m) ≡ (ltb k (pos h s) && M.take s i (ahead L h s i k))
  input_answer h i s m k l sent =
      cond-false (eqb s environment) true (answer (sent_at L i (event input s m))) (not_environment s l) ∙ ap answer (found L sound s i m k sent)
    where
      answer : ℕ → Bool
      answer x = ltb x (pos h s) && M.take s i (ahead L h s i x)

  alone_answer : (h : List ℕ) (i : ℕ) (e : Event) → (e.kind ≡ action) ⊎ (e.peer ≡ environment) → may_run_at M L (pos h) i e ≡ true
  alone_answer h i e a =
      cond-true (eqb e.kind action || eqb e.peer environment) true _ (⊎_elim
      (λ k. or_left (eqb e.kind action) (eqb e.peer environment) (eq-eqb e.kind action k))
      (λ p. or_right (eqb e.kind action) (eqb e.peer environment) (eq-eqb e.peer environment p)) a)

  pub true_may : (h : List ℕ) (i : ℕ) → May M L h i → may_now_at M L (pos h) i ≡ true
  true_may h i (alone e n a) = next_answer h i e true n (alone_answer h i e a)
  true_may h i (sends j m n l y) = next_answer h i (event output j m) true n (output_answer h i j m l ∙ y)
  true_may h i (takes s m k n l sent ran y) =
      next_answer h i (event input s m) true n
      (input_answer h i s m k l sent ∙ and_from (ltb k (pos h s)) (M.take s i (ahead L h s i k)) (lt-ltb k (pos h s) ran) y)

  -- what waits may not run, and waits for the one that is computed
  pub waits_now_lem : (h : List ℕ) (i j : ℕ) → Waits M L h i j → (may_now_at M L (pos h) i ≡ false) × (j ≡ waits_now L (pos h) i)
  waits_now_lem h i x (receiver j m n l f) =
      (next_answer h i (event output j m) false n (output_answer h i j m l ∙ f), next_wait h i j (event output j m) n refl)
  waits_now_lem h i x (sender s m k n l sent late) =
      let e = event input s m in
      let unsent = le-ltb k (pos h s) late in (
        next_answer h i e false n (input_answer h i s m k l sent ∙ and_left (ltb k (pos h s)) (M.take s i (ahead L h s i k)) unsent),
        next_wait h i s e n (ap (λ (z : ℕ). cond (ltb z (pos h s)) i s) (found L sound s i m k sent) ∙ cond-false (ltb k (pos h s)) i s unsent),
      )
  waits_now_lem h i x (itself s m k n l sent ran f) =
      let e = event input s m in (
        next_answer h i e false n (input_answer h i s m k l sent ∙ and_right (ltb k (pos h s)) (M.take s i (ahead L h s i k)) f),
        next_wait h i i e n (ap (λ (z : ℕ). cond (ltb z (pos h s)) i s) (found L sound s i m k sent) ∙ cond-true (ltb k (pos h s)) i s (lt-ltb k (pos h s) ran)),
      )

  pub may_true : (h : List ℕ) (i : ℕ) → may_now_at M L (pos h) i ≡ true → May M L h i
  may_true h i y = go (state L sound M h i)
    where
      go : State M L h i → May M L h i
      go (finished done) =
          let left = ltb-true (pos h i) (count_of L i) (and_parts (ltb (pos h i) (count_of L i)) (may_run_at M L (pos h) i (event_of L i (pos h i))) y).0 in
          absurd (omega arith)
      go (may m) = m
      go (waits j w) = absurd (both_ways (may_now_at M L (pos h) i) (waits_now_lem h i j w).0 y)

  -- an instance with an event left that may not run waits for the one that is computed
  pub now_waits : (h : List ℕ) (i : ℕ) → pos h i < count_of L i → may_now_at M L (pos h) i ≡ false → Waits M L h i (waits_now L (pos h) i)
  now_waits h i left f = go (state L sound M h i)
    where
      go : State M L h i → Waits M L h i (waits_now L (pos h) i)
      go (finished done) = absurd (omega arith)
      go (may m) = absurd (both_ways (may_now_at M L (pos h) i) f (true_may h i m))
      go (waits j w) = subst (Waits M L h i) (waits_now_lem h i j w).1 w
