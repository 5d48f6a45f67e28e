-- The events of a table and the events of its lists are the same, place by place.
use Rattle.std.proofs.Common.{◌≡◌, ℕ, zero, suc, ◌+◌, ◌-◌, ◌<◌, ◌≤◌, max, Bool, true, false, cond, ltb, List, [], ◌∷◌, length, get_or, take, drop, sum, sym, refl, ap, ◌∙◌, arith}
use Rattle.std.proofs.lemmas.List.{length-take, length-take-le, length-drop, get_or-take, get_or-drop}
use Rattle.std.proofs.lemmas.List.Sums.{sum_by-cons}
use Rattle.std.proofs.lemmas.Bool.{lt-ltb, le-ltb, ltb-true, ltb-false}
use Rattle.charts.specs.declared.parts.Event.{Event}
use Rattle.charts.specs.Events.{no_event}
use Rattle.charts.specs.Lists.{At, size, count_of, event_of}
use Rattle.charts.specs.Span.{span_of, span}
use Rattle.checks.specs.Cut.{cut, instance_of, index_of}

pub sum_cons : (n : ℕ) (ns : List ℕ) → sum (n ∷ ns) ≡ n + sum ns
sum_cons n ns = sum_by-cons (λ x. x) n ns

-- where an event of the lists stands in the table
pub record Flat (ns : List ℕ) (es : List Event) (i k : ℕ) (e : Event) : Type 0 where
  pub at : ℕ
  pub within : at < length es
  pub is : get_or es at no_event ≡ e
  pub instance : instance_of ns at ≡ i
  pub index : index_of ns at ≡ k

module _ (n : ℕ) (ns : List ℕ) (p : ℕ) where
  pub instance_here : p < n → instance_of (n ∷ ns) p ≡ 0
  instance_here h = ap (λ (b : Bool). cond b 0 (suc (instance_of ns (p - n)))) (lt-ltb p n h)

  pub instance_there : n ≤ p → instance_of (n ∷ ns) p ≡ suc (instance_of ns (p - n))
  instance_there h = ap (λ (b : Bool). cond b 0 (suc (instance_of ns (p - n)))) (le-ltb p n h)

  pub index_here : p < n → index_of (n ∷ ns) p ≡ p
  index_here h = ap (λ (b : Bool). cond b p (index_of ns (p - n))) (lt-ltb p n h)

  pub index_there : n ≤ p → index_of (n ∷ ns) p ≡ index_of ns (p - n)
  index_there h = ap (λ (b : Bool). cond b p (index_of ns (p - n))) (le-ltb p n h)

pub at_flat : (ns : List ℕ) (es : List Event) (i k : ℕ) (e : Event) → At (cut ns es) i k e → Flat ns es i k e
at_flat [] es i k e a = absurd (let h = a.within in omega arith)
at_flat (n ∷ ns) es zero k e a =
    let w = a.within in
    let l = length-take n es in
    let h : k < n = omega arith in
    record {
      at = k;
      within = omega arith;
      is = sym (get_or-take n es k no_event h) ∙ a.is;
      instance = instance_here n ns k h;
      index = index_here n ns k h;
    }
at_flat (n ∷ ns) es (suc i) k e a =
    let f = at_flat ns (drop n es) i k e (record { within = a.within; is = a.is }) in
    let w = f.within in
    let l = length-drop n es in
    let b : n + f.at - n ≡ f.at = omega arith in
    let h : n ≤ n + f.at = omega arith in
    record {
      at = n + f.at;
      within = omega arith;
      is = sym (get_or-drop n es f.at no_event) ∙ f.is;
      instance = instance_there n ns (n + f.at) h ∙ ap (λ (x : ℕ). suc (instance_of ns x)) b ∙ ap suc f.instance;
      index = index_there n ns (n + f.at) h ∙ ap (index_of ns) b ∙ f.index;
    }

pub flat_at : (ns : List ℕ) (es : List Event) (p : ℕ) → p < length es → p < sum ns → At (cut ns es) (instance_of ns p) (index_of ns p) (get_or es p no_event)
flat_at [] es p h s = absurd (omega arith)
flat_at (n ∷ ns) es p h s =
    go (ltb p n) refl (λ q. flat_at ns (drop n es) (p - n) (let l = length-drop n es in omega arith) (let c = sum_cons n ns in omega arith))
  where
    go : (t : Bool) → ltb p n ≡ t → (n ≤ p → At (cut ns (drop n es)) (instance_of ns (p - n)) (index_of ns (p - n)) (get_or (drop n es) (p - n) no_event)) →
        At (cut (n ∷ ns) es) (cond t 0 (suc (instance_of ns (p - n)))) (cond t p (index_of ns (p - n))) (get_or es p no_event)
    go true t r = let q = ltb-true p n t in record { within = (let l = length-take n es in omega arith); is = get_or-take n es p no_event q }
    go false t r =
        let q = ltb-false p n t in
        let b : n + (p - n) ≡ p = omega arith in
        let a = r q in
        record { within = a.within; is = a.is ∙ get_or-drop n es (p - n) no_event ∙ ap (λ (x : ℕ). get_or es x no_event) b }

both_places : (n : ℕ) (ns : List ℕ) (p q : ℕ) → p < sum (n ∷ ns) → q < sum (n ∷ ns) →
    (n ≤ p → n ≤ q → instance_of ns (p - n) ≡ instance_of ns (q - n) → index_of ns (p - n) ≡ index_of ns (q - n) → p - n ≡ q - n) →
    (s t : Bool) → ltb p n ≡ s → ltb q n ≡ t →
    cond s 0 (suc (instance_of ns (p - n))) ≡ cond t 0 (suc (instance_of ns (q - n))) → cond s p (index_of ns (p - n)) ≡ cond t q (index_of ns (q - n)) → p ≡ q
both_places n ns p q hp hq r true true s t e f = f
both_places n ns p q hp hq r true false s t e f = absurd (omega arith)
both_places n ns p q hp hq r false true s t e f = absurd (omega arith)
both_places n ns p q hp hq r false false s t e f =
    let x = ltb-false p n s in
    let y = ltb-false q n t in
    let z = r x y (omega arith) f in
    omega arith

-- no two events of a table have one place
pub same_place : (ns : List ℕ) (p q : ℕ) → p < sum ns → q < sum ns → instance_of ns p ≡ instance_of ns q → index_of ns p ≡ index_of ns q → p ≡ q
same_place [] p q hp hq e f = absurd (omega arith)
same_place (n ∷ ns) p q hp hq e f =
    let c = sum_cons n ns in
    both_places n ns p q hp hq (λ x y a b. same_place ns (p - n) (q - n) (omega arith) (omega arith) a b) (ltb p n) (ltb q n) refl refl e f

pub cut_length : (ns : List ℕ) (es : List Event) → length (cut ns es) ≡ length ns
cut_length [] es = refl
cut_length (n ∷ ns) es = ap suc (cut_length ns (drop n es))

pub cut_count : (ns : List ℕ) (es : List Event) (i : ℕ) → sum ns ≤ length es → count_of (cut ns es) i ≡ get_or ns i 0
cut_count [] es i h = refl
cut_count (n ∷ ns) es zero h = let c = sum_cons n ns in length-take-le n es (omega arith)
cut_count (n ∷ ns) es (suc i) h =
    let c = sum_cons n ns in
    let l = length-drop n es in
    cut_count ns (drop n es) i (omega arith)

pub cut_event : (ns : List ℕ) (es : List Event) (i k : ℕ) → k < count_of (cut ns es) i → event_of (cut ns es) i k ≡ get_or es (sum (take i ns) + k) no_event
cut_event [] es i k h = absurd (omega arith)
cut_event (n ∷ ns) es zero k h =
    let l = length-take n es in
    let b : k ≡ 0 + k = omega arith in
    get_or-take n es k no_event (omega arith) ∙ ap (λ (x : ℕ). get_or es x no_event) b
cut_event (n ∷ ns) es (suc i) k h =
    let c = sum_cons n (take i ns) in
    let b : n + (sum (take i ns) + k) ≡ sum (n ∷ take i ns) + k = omega arith in
    cut_event ns (drop n es) i k h ∙ get_or-drop n es (sum (take i ns) + k) no_event ∙ ap (λ (x : ℕ). get_or es x no_event) b

pub cut_size : (ns : List ℕ) (es : List Event) → sum ns ≡ length es → size (cut ns es) ≡ length es
cut_size [] es h = h
cut_size (n ∷ ns) es h =
    let c = sum_cons n ns in
    let l = length-drop n es in
    let t = length-take-le n es (omega arith) in
    let r = cut_size ns (drop n es) (omega arith) in
    let d = sum_by-cons length (take n es) (cut ns (drop n es)) in
    omega arith

span_parts : (n : ℕ) (es : List Event) → max (span_of (take n es)) (span_of (drop n es)) ≡ span_of es
span_parts zero es = omega arith
span_parts (suc n) [] = refl
span_parts (suc n) (e ∷ es) = let r = span_parts n es in omega arith

pub cut_span : (ns : List ℕ) (es : List Event) → sum ns ≡ length es → span (cut ns es) ≡ span_of es
cut_span [] [] h = refl
cut_span [] (e ∷ es) h = absurd (omega arith)
cut_span (n ∷ ns) es h =
    let c = sum_cons n ns in
    let l = length-drop n es in
    let r = cut_span ns (drop n es) (omega arith) in
    let p = span_parts n es in
    omega arith

module _ (n : ℕ) (ns : List ℕ) (p : ℕ) where
  instance_le : (t : Bool) → instance_of ns (p - n) ≤ length ns → cond t 0 (suc (instance_of ns (p - n))) ≤ suc (length ns)
  instance_le true h = omega arith
  instance_le false h = omega arith

  index_le : (t : Bool) → index_of ns (p - n) ≤ p - n → cond t p (index_of ns (p - n)) ≤ p
  index_le true h = omega arith
  index_le false h = omega arith

pub instance_bound : (ns : List ℕ) (p : ℕ) → instance_of ns p ≤ length ns
instance_bound [] p = omega arith
instance_bound (n ∷ ns) p = instance_le n ns p (ltb p n) (instance_bound ns (p - n))

pub index_bound : (ns : List ℕ) (p : ℕ) → index_of ns p ≤ p
index_bound [] p = omega arith
index_bound (n ∷ ns) p = index_le n ns p (ltb p n) (index_bound ns (p - n))
