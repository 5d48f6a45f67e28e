-- A chart that is recast and then recast back is the same.
use Rattle.std.proofs.Common.{◌≡◌, ℕ, ◌<◌, ◌≤◌, Bool, cond, ◌⊎◌, List, [], ◌∷◌, map, length, Some, None, sym, refl, ap, ◌∙◌, subst, ap₂, inl, inr, arith}
use Rattle.std.specs.List.{AllByRecursion}
use Rattle.std.proofs.ByRecursion.{All-from_get_or}
use Rattle.std.proofs.lemmas.List.{ext_get_or}
use Rattle.charts.specs.declared.parts.Event.{Event}
use Rattle.charts.specs.Events.{environment, no_event, Message, output, input}
use Rattle.charts.specs.Judged.{unspoiled}
use Rattle.charts.specs.Lists.{At, column, count_of, event_of}
use Rattle.charts.specs.Sound.{Sound}
use Rattle.std.proofs.lemmas.Bool.{cases_eq}
use Rattle.joining.specs.Joined.{join_fault}
use Rattle.joining.specs.Moves.{named, moved}
use Rattle.joining.specs.Recast.{to, from, Permutes, recast, recast_trouble, recast_lists}
use Rattle.joining.proofs.Moving.{named_environment, named_instance, moved_nowhere}
use Rattle.joining.proofs.Recasts.{from_within, to_from, from_to, permutes_yes, recast_length, recast_column}

-- the table b names the first instance of each name of t
module _ (t b : List ℕ) (w : ℕ) (p : Permutes t w) (long : w ≤ length t) (wide : w ≤ length b) (back : (j : ℕ) → j < w → to b j ≡ from t j) where
  pub inverse_permutes : Permutes b w
  inverse_permutes =
      record {
        within = λ j l. let e = back j l in let h = from_within t w p long j l in omega arith;
        apart = λ i j l m e. sym (to_from t w p long i l) ∙ ap (to t) (sym (back i l) ∙ e ∙ back j m) ∙ to_from t w p long j m;
        onto = λ j l. let h = p.within j l in (to t j, h, back (to t j) h ∙ from_to t w p long j l);
      }

  inverse_to : (j : ℕ) → j < w → to b (to t j) ≡ j
  inverse_to j l = back (to t j) (p.within j l) ∙ from_to t w p long j l

  inverse_from : (j : ℕ) → j < w → from b j ≡ to t j
  inverse_from j l = ap (from b) (sym (inverse_to j l)) ∙ from_to b w inverse_permutes wide (to t j) (p.within j l)

  -- an event that is renamed twice
  event_back : (e : Event) → (e.peer ≡ environment) ⊎ (e.peer < w) → w ≤ 32 → moved (to b) 0 (moved (to t) 0 e) ≡ e
  event_back e q few =
      let d = moved (to t) 0 e in
      let peer : named (to b) (named (to t) e.peer) ≡ e.peer =
      elim q [
        | inl y ↦ named_environment (to b) (named (to t) e.peer) (named_environment (to t) e.peer y) ∙ sym y
        | inr l ↦
            let a = named_instance (to t) e.peer (λ y. omega arith) in
            let h = p.within e.peer l in
            ap (named (to b)) a ∙ named_instance (to b) (to t e.peer) (λ y. omega arith) ∙ inverse_to e.peer l
      ] in
      let same = ap (λ (x : Event). x.number) (moved_nowhere (λ i. i) (λ i. refl) e) in
      let twice = ap (λ (x : Event). x.number) (moved_nowhere (λ i. i) (λ i. refl) d) in
      λ i. record { kind = e.kind; peer = peer i; number = (twice ∙ same) i }

  column_back : (es : List Event) → w ≤ 32 → AllByRecursion (λ e. (e.peer ≡ environment) ⊎ (e.peer < w)) es → map (moved (to b) 0) (map (moved (to t) 0) es) ≡ es
  column_back [] few a = refl
  column_back (e ∷ es) few a = ap₂ ◌∷◌ (event_back e a.0 few) (column_back es few a.1)

-- the peers of a sound chart
peers_at : (L : List (List Event)) → Sound L → (i k : ℕ) → k < count_of L i → ((event_of L i k).peer ≡ environment) ⊎ ((event_of L i k).peer < length L)
peers_at L s i k l =
    let e = event_of L i k in
    let a : At L i k e = record { within = l; is = refl } in
    let d = s.kinds i k e a in
    let d0 = d.0 in
    let d1 = d.1 in
    let of_message : Message e → (e.peer ≡ environment) ⊎ (e.peer < length L) = λ m. elim (s.message_peers i k e a m) [ inl x ↦ inr x | inr y ↦ inl y ] in
    elim (cases_eq e.kind output) [
      | inl o ↦ of_message (inl o)
      | inr o ↦ elim (cases_eq e.kind input) [ inl n ↦ of_message (inr n) | inr n ↦ inl (s.action_peers i k e a (omega arith)) ]
    ]

module _ (L : List (List Event)) (t b : List ℕ) (s : Sound L) (p : Permutes t (length L)) (long : length L ≤ length t) (wide : length L ≤ length b)
    (back : (j : ℕ) → j < length L → to b j ≡ from t j) where
  same_width : length (recast L t) ≡ length L
  same_width = recast_length L t p long

  permuted : Permutes b (length (recast L t))
  permuted = subst (Permutes b) (sym same_width) (inverse_permutes t b (length L) p long wide back)

  enough : length (recast L t) ≤ length b
  enough = let w = same_width in omega arith

  columns : (j : ℕ) → j < length L → column (recast (recast L t) b) j ≡ column L j
  columns j l =
      let w = same_width in
      let h = p.within j l in
      recast_column (recast L t) b permuted enough j (omega arith) ∙
      ap (λ (x : ℕ). map (moved (to b) 0) (column (recast L t) x)) (inverse_from t b (length L) p long wide back j l) ∙
      ap (map (moved (to b) 0)) (recast_column L t p long (to t j) h ∙ ap (λ (x : ℕ). map (moved (to t) 0) (column L x)) (from_to t (length L) p long j l)) ∙
      column_back t b (length L) p long wide back (column L j) s.few_instances
      (All-from_get_or (λ e. (e.peer ≡ environment) ⊎ (e.peer < length L)) (column L j) no_event (λ k m. peers_at L s j k m))

  pub undone : recast (recast L t) b ≡ L
  undone =
      let w = same_width in
      let v = recast_length (recast L t) b permuted enough in
      ext_get_or [] (recast (recast L t) b) L (v ∙ w) (λ i l. columns i (omega arith))

  -- as charts: no fault, and the lists of the first
  pub undone_trouble : recast_trouble None (recast L t) b ≡ None
  undone_trouble = ap (λ (y : Bool). cond y None (Some (join_fault 32 5))) (permutes_yes b (length (recast L t)) enough permuted)

  pub undone_lists : recast_lists None (recast L t) b ≡ L
  undone_lists = ap (λ f. unspoiled f (recast (recast L t) b)) undone_trouble ∙ undone
