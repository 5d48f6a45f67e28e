-- A chart with its instances renamed is sound, and as large as before.
use Rattle.std.proofs.Common.{◌≡◌, ℕ, zero, suc, ◌+◌, ◌<◌, ◌≤◌, Bool, true, false, cond, ◌&&◌, eqb, ltb, List, [], ◌∷◌, map, length, get_or, Some, None, Decides, sum_by, Option, sym, refl, ap, ◌∙◌, inl, inr, arith}
use Rattle.std.proofs.lemmas.Bool.Decides.{Decides-below_and, Decides-and, Decides-ltb, Decides-eqb}
use Rattle.charts.specs.declared.faults.Fault.{Fault}
use Rattle.charts.specs.Judged.{Judged, unspoiled}
use Rattle.std.specs.List.{range_with_len}
use Rattle.std.proofs.lemmas.List.FromFn.{length-map-range_with_len, get_or-map-range_with_len, sum_by-map-range_with_len_more}
use Rattle.std.proofs.lemmas.List.{length-map, get_or-map}
use Rattle.std.proofs.lemmas.List.Sums.{sum_by-cons}
use Rattle.std.proofs.lemmas.Bool.{eqb-true, eq-eqb, cond-true}
use Rattle.charts.specs.declared.parts.Event.{Event}
use Rattle.charts.specs.Lists.{At, column, count_of, size}
use Rattle.charts.specs.Sound.{Sound}
use Rattle.charts.specs.Span.{span}
use Rattle.joining.specs.Moves.{moved}
use Rattle.joining.specs.Joined.{join_fault}
use Rattle.joining.specs.Recast.{to, from, Permutes, recast, turns, turns_below, recast_trouble, recast_lists}
use Rattle.charts.specs.Events.{Message, no_event}
use Rattle.charts.proofs.Spans.{Spans, spans, same_span, span_below, span_reached, sound_span}
use Rattle.joining.proofs.Moving.{at_instance, risen_message}
use Rattle.joining.proofs.Totals.{total, total_front, total_same, total_turned}
use Rattle.joining.proofs.Union.{Part, From, union_sound}

-- the first instance of a name
first_named : (t : List ℕ) (i j : ℕ) → i < length t → to t i ≡ j → (from t j ≤ i) × (to t (from t j) ≡ j)
first_named [] i j l e = absurd (omega arith)
first_named (x ∷ t) zero j l e =
    let z = cond-true (eqb x j) 0 (suc (from t j)) (eq-eqb x j e) in (omega arith, ap (to (x ∷ t)) z ∙ e)
first_named (x ∷ t) (suc i) j l e = go (eqb x j) refl (first_named t i j (omega arith) e)
  where
    go : (b : Bool) → eqb x j ≡ b → (from t j ≤ i) × (to t (from t j) ≡ j) → (cond b 0 (suc (from t j)) ≤ suc i) × (to (x ∷ t) (cond b 0 (suc (from t j))) ≡ j)
    go true y r = (omega arith, eqb-true x j y)
    go false y r = let a = r.0 in (omega arith, r.1)

-- an instance that is found has the name
found_named : (t : List ℕ) (j : ℕ) → from t j < length t → to t (from t j) ≡ j
found_named [] j l = absurd (omega arith)
found_named (x ∷ t) j l = go (eqb x j) refl l (found_named t j)
  where
    go : (b : Bool) → eqb x j ≡ b → cond b 0 (suc (from t j)) < suc (length t) → (from t j < length t → to t (from t j) ≡ j) → to (x ∷ t) (cond b 0 (suc (from t j))) ≡ j
    go true y h r = eqb-true x j y
    go false y h r = r (omega arith)

module _ (t : List ℕ) (w : ℕ) (p : Permutes t w) (long : w ≤ length t) where
  pub from_within : (j : ℕ) → j < w → from t j < w
  from_within j l = let o = p.onto j l in let o1 = o.1 in let r = (first_named t o.0 j (omega arith) o.2).0 in omega arith

  pub to_from : (j : ℕ) → j < w → to t (from t j) ≡ j
  to_from j l = let o = p.onto j l in let o1 = o.1 in (first_named t o.0 j (omega arith) o.2).1

  pub from_to : (i : ℕ) → i < w → from t (to t i) ≡ i
  from_to i l = let b = p.within i l in p.apart (from t (to t i)) i (from_within (to t i) b) l (to_from (to t i) b)

-- an empty chart is sound
pub empty_sound : Sound []
empty_sound =
    record {
      few_instances = omega arith;
      few_events = omega arith;
      kinds = λ i k e a. absurd (none i k e a);
      message_peers = λ i k e a m. absurd (none i k e a);
      action_peers = λ i k e a m. absurd (none i k e a);
      numbers = λ i k e a. absurd (none i k e a);
      one_output = λ m i k q j l r a b. absurd (none i k _ a);
      one_input = λ m i k q j l r a b. absurd (none i k _ a);
      outputs_matched = λ m i k j a l. absurd (none i k _ a);
      inputs_matched = λ m i k j a l. absurd (none i k _ a);
      environment_alone = λ i k j l e f a b m n o q. absurd (none i k e a);
    }
  where
    none : (i k : ℕ) (e : Event) → At [] i k e → ⊥
    none i k e a = let w = a.within in omega arith

-- sums over the instances
sizes : (g : ℕ → List Event) (n : ℕ) → size (map g (range_with_len 0 n)) ≡ total (λ j. length (g j)) n
sizes g zero = refl
sizes g (suc n) =
    let r = sizes g n in
    let e = sum_by-map-range_with_len_more length g 0 n n (omega arith) in
    let s : n + 1 ≡ suc n = omega arith in
    let z = ap (λ (x : ℕ). sum_by length (map g (range_with_len 0 x))) s in
    omega arith

size_total : (L : List (List Event)) → size L ≡ total (count_of L) (length L)
size_total [] = refl
size_total (es ∷ L) = let r = size_total L in let a = sum_by-cons length es L in let b = total_front (count_of (es ∷ L)) (length L) in omega arith

module _ (L : List (List Event)) (t : List ℕ) (p : Permutes t (length L)) (long : length L ≤ length t) where
  pub recast_length : length (recast L t) ≡ length L
  recast_length = length-map-range_with_len (λ j. map (moved (to t) 0) (column L (from t j))) 0 (length L)

  pub recast_column : (j : ℕ) → j < length L → column (recast L t) j ≡ map (moved (to t) 0) (column L (from t j))
  recast_column j l = get_or-map-range_with_len (λ j. map (moved (to t) 0) (column L (from t j))) 0 (length L) j j [] l (omega arith)

  pub recast_size : size (recast L t) ≡ size L
  recast_size =
      sizes (λ j. map (moved (to t) 0) (column L (from t j))) (length L) ∙
      total_same (λ j. length (map (moved (to t) 0) (column L (from t j)))) (λ j. count_of L (from t j)) (length L) (λ j l. length-map (column L (from t j)) (moved (to t) 0)) ∙
      total_turned (count_of L) (to t) (from t) (length L) (from_within t (length L) p long) (to_from t (length L) p long) p.within (from_to t (length L) p long) ∙
      sym (size_total L)

  whole : Part (recast L t) L (to t) 0
  whole =
      record {
        place = λ i k. k;
        inside = λ i l. let n = recast_length in let b = p.within i l in omega arith;
        forth = λ i k e a.
            let l = at_instance L i k e a in
            let w = a.within in
            let c : column (recast L t) (to t i) ≡ map (moved (to t) 0) (column L i) =
            recast_column (to t i) (p.within i l) ∙ ap (λ (x : ℕ). map (moved (to t) 0) (column L x)) (from_to t (length L) p long i l) in
            let n = length-map (column L i) (moved (to t) 0) in
            let m = ap length c in
            record {
              within = omega arith;
              is = ap (λ (es : List Event). get_or es k no_event) c ∙ get_or-map (moved (to t) 0) (column L i) k no_event no_event w ∙ ap (moved (to t) 0) a.is;
            };
      }

  nothing : Part (recast L t) [] (λ i. i) (span L)
  nothing = record { place = λ i k. k; inside = λ i l. absurd (omega arith); forth = λ i k e a. absurd (let w = a.within in omega arith) }

  source : (j l : ℕ) (e : Event) → At (recast L t) j l e → From (recast L t) L (to t) 0 whole j l e
  unfolding whole
  source j l e a =
      let n = recast_length in
      let within = at_instance (recast L t) j l e a in
      let h : j < length L = omega arith in
      let c = recast_column j h in
      let m = ap length c in
      let k = length-map (column L (from t j)) (moved (to t) 0) in
      let w = a.within in
      let b : l < count_of L (from t j) = omega arith in
      record {
        instance = from t j;
        index = l;
        source = get_or (column L (from t j)) l no_event;
        there = record { within = b; is = refl };
        here = (sym (to_from t (length L) p long j h), refl);
        is = sym a.is ∙ ap (λ (es : List Event). get_or es l no_event) c ∙ get_or-map (moved (to t) 0) (column L (from t j)) l no_event no_event b;
      }

  pub recast_sound : Sound L → span L ≤ 4096 → Sound (recast L t)
  recast_sound s high =
      let n = recast_length in
      let z = recast_size in
      let few = s.few_instances in
      let events = s.few_events in
      union_sound (recast L t) L [] (to t) (λ i. i) (span L) whole nothing s empty_sound (omega arith) (omega arith) (omega arith) high (omega arith) (λ j l e a. inl (source j l e a))

  spans_recast : Spans (recast L t) (span L)
  unfolding whole
  spans_recast =
      record {
        below = λ j l e a m.
            let x = source j l e a in
            let k = ap (λ (z : Event). z.kind) x.is in
            let m' : Message x.source = elim m [ inl o ↦ inl (sym k ∙ o) | inr o ↦ inr (sym k ∙ o) ] in
            let b = span_below L x.instance x.index x.source x.there m' in
            let n = ap (λ (z : Event). z.number) x.is ∙ risen_message 0 x.source m' in
            omega arith;
        reached =
            elim (span_reached L) [
              | inl z ↦ inl z
              | inr h ↦
                  let n = risen_message 0 h.2 h.4 in
                  let top = h.5 in
                  inr (to t h.0, h.1, moved (to t) 0 h.2, whole.forth h.0 h.1 h.2 h.3, h.4, omega arith)
            ];
      }

  pub recast_span : span (recast L t) ≡ span L
  recast_span = same_span (recast L t) (span (recast L t)) (span L) (spans (recast L t)) spans_recast

-- the test for a permutation decides it
module _ (t : List ℕ) (w : ℕ) (long : w ≤ length t) where
  Turns : ℕ → Type 0
  Turns i = (to t i < w) × ((from t (to t i) ≡ i) × (from t i < w))

  decided : (n : ℕ) → Decides (turns_below t w n) ((k : ℕ) → k < n → Turns k)
  unfolding Turns
  decided n =
      Decides-below_and (turns t w) Turns (turns_below t w)
      (λ k. Decides-and (ltb (to t k) w) (eqb (from t (to t k)) k && ltb (from t k) w) (Decides-ltb (to t k) w)
      (Decides-and (eqb (from t (to t k)) k) (ltb (from t k) w) (Decides-eqb (from t (to t k)) k) (Decides-ltb (from t k) w)))
      refl (λ _. refl) n

  pub permutes_from : turns_below t w w ≡ true → Permutes t w
  unfolding Turns
  permutes_from y =
      let h = (decided w).0 y in
      record {
        within = λ i l. (h i l).0;
        apart = λ i j l m e. sym (h i l).1.0 ∙ ap (from t) e ∙ (h j m).1.0;
        onto = λ j l. (from t j, (h j l).1.1, found_named t j (let b = (h j l).1.1 in omega arith));
      }

  pub permutes_yes : Permutes t w → turns_below t w w ≡ true
  unfolding Turns
  permutes_yes p = (decided w).1 (λ k l. (p.within k l, (from_to t w p long k l, from_within t w p long k l)))

recast_limits : (L : List (List Event)) (t : List ℕ) (b : Bool) → turns_below t (length L) (length L) ≡ b → Sound L → 32 ≤ length t →
    Judged (cond b None (Some (join_fault 32 5))) (unspoiled (cond b None (Some (join_fault 32 5))) (recast L t))
recast_limits L t true y s long =
    let few = s.few_instances in recast_sound L t (permutes_from t (length L) (omega arith) y) (omega arith) s (sound_span L s)
recast_limits L t false y s long = refl

-- a recast chart owes what every chart owes, and gives it
pub recast_judged : (f : Option Fault) (L : List (List Event)) (t : List ℕ) → Judged f L → length t ≡ 32 → Judged (recast_trouble f L t) (recast_lists f L t)
recast_judged (Some f) L t j long = refl
recast_judged None L t j long = recast_limits L t (turns_below t (length L) (length L)) refl j (omega arith)
