-- A recast chart, from what its part answers.
use Rattle.std.proofs.Common.{◌≡◌, ℕ, ◌<◌, ◌≤◌, Bool, true, false, cond, List, [], map, length, get_or, Some, None, Ok, MatchOption, Option, unwrap_or, sym, refl, ap, ◌∙◌, subst, arith}
use Rattle.charts.specs.declared.parts.Event.{Event}
use Rattle.charts.specs.declared.faults.Fault.{Fault}
use Rattle.charts.specs.declared.parts.Summary.{Summary}
use Rattle.charts.specs.Judged.{Judged, summed, unspoiled}
use Rattle.charts.specs.Lists.{column}
use Rattle.charts.proofs.Summaries.{summed_ok}
use Rattle.joining.specs.Joined.{join_fault}
use Rattle.joining.specs.Moves.{moved}
use Rattle.joining.specs.Recast.{to, from, recast, turns_below, recast_trouble, recast_lists, Permutes, Undoes, Exactly}
use Rattle.joining.proofs.Undone.{undone_trouble, undone_lists}
use Rattle.joining.proofs.Recasts.{permutes_yes, permutes_from, from_within, recast_length, recast_column, recast_size, recast_span}

-- the chart is whole, and t permutes its instances
pub record Turned (f : Option Fault) (L : List (List Event)) (t : List ℕ) : Type 0 where
  pub whole : f ≡ None
  pub permuted : Permutes t (length L)
  pub few : length L ≤ 32
  pub lists : recast_lists f L t ≡ recast L t

turned_so : (L : List (List Event)) (t : List ℕ) (b : Bool) → turns_below t (length L) (length L) ≡ b → Judged None L → length t ≡ 32 →
    cond b None (Some (join_fault 32 5)) ≡ None → Permutes t (length L) × (unspoiled (cond b None (Some (join_fault 32 5))) (recast L t) ≡ recast L t)
turned_so L t true y j n e = let few = j.few_instances in (permutes_from t (length L) (omega arith) y, refl)
turned_so L t false y j n e = absurd (let z : ◌≡◌ {A = ℕ} 0 1 = cc in omega arith)

pub turned : (f : Option Fault) (L : List (List Event)) (t : List ℕ) → Judged f L → length t ≡ 32 → recast_trouble f L t ≡ None → Turned f L t
turned None L t j n e =
    let r = turned_so L t (turns_below t (length L) (length L)) refl j n e in
    record { whole = refl; permuted = r.0; few = j.few_instances; lists = r.1 }
turned (Some f) L t j n e = absurd (let z : ◌≡◌ {A = ℕ} 0 1 = cc in omega arith)

-- the size stays
pub recast_sized : (f : Option Fault) (L : List (List Event)) (t : List ℕ) (s : Summary) → Judged f L → length t ≡ 32 → Ok s ≡ summed f L → turns_below t s.width s.width ≡ true →
    Ok s ≡ summed (recast_trouble f L t) (recast_lists f L t)
recast_sized None L t s j n e y =
    let a = summed_ok None L s e in
    let y' : turns_below t (length L) (length L) ≡ true = subst (λ (w : ℕ). turns_below t w w ≡ true) a.width y in
    let few = j.few_instances in
    let p = permutes_from t (length L) (omega arith) y' in
    let long : length L ≤ length t = omega arith in
    let w : s.width ≡ length (recast L t) = a.width ∙ sym (recast_length L t p long) in
    let v = a.events ∙ sym (recast_size L t p long) in
    let z = a.span ∙ sym (recast_span L t p long) in
    ap Ok (λ i. record { width = w i; events = v i; span = z i }) ∙
    ap (λ (b : Bool). summed (cond b None (Some (join_fault 32 5))) (unspoiled (cond b None (Some (join_fault 32 5))) (recast L t))) (sym y')
recast_sized (Some f) L t s j n e y = absurd (let z : ◌≡◌ {A = ℕ} 0 1 = cc in omega arith)

-- what an answered summary of a recast chart tells
pub record Sized (f : Option Fault) (L : List (List Event)) (t : List ℕ) (s : Summary) : Type 0 where
  pub turns : Turned f L t
  pub width : s.width ≡ length L

pub sized_from : (f : Option Fault) (L : List (List Event)) (t : List ℕ) (s : Summary) → Judged f L → length t ≡ 32 → Ok s ≡ summed (recast_trouble f L t) (recast_lists f L t) → Sized f L t s
sized_from f L t s j n e =
    let a = summed_ok (recast_trouble f L t) (recast_lists f L t) s e in
    let x = turned f L t j n a.whole in
    let few = x.few in
    record { turns = x; width = a.width ∙ ap length x.lists ∙ recast_length L t x.permuted (omega arith) }

-- an answered summary is that of at most 32 instances
pub sized_few : (f : Option Fault) (L : List (List Event)) (t : List ℕ) (s : Summary) → Judged f L → length t ≡ 32 → Ok s ≡ summed (recast_trouble f L t) (recast_lists f L t) → s.width ≤ 32
sized_few f L t s j n e = let a = sized_from f L t s j n e in let w = a.width in let few = a.turns.few in omega arith

-- the instance that becomes i, below the width
pub turned_source : (f : Option Fault) (L : List (List Event)) (t : List ℕ) (s : Summary) (i : ℕ) (o : Option ℕ) → Judged f L → length t ≡ 32 → Ok s ≡ summed (recast_trouble f L t) (recast_lists f L t) → i < s.width → unwrap_or o 32 ≡ from t i →
    MatchOption o (column (recast_lists f L t) i ≡ []) (λ x. column (recast_lists f L t) i ≡ map (moved (to t) 0) (column L x))
turned_source f L t s i o j n e l b = go o b
  where
    a : Sized f L t s
    a = sized_from f L t s j n e

    within : i < length L
    within = let w = a.width in omega arith

    go : (q : Option ℕ) → unwrap_or q 32 ≡ from t i → MatchOption q (column (recast_lists f L t) i ≡ []) (λ x. column (recast_lists f L t) i ≡ map (moved (to t) 0) (column L x))
    go None p = let few = a.turns.few in let low = from_within t (length L) a.turns.permuted (omega arith) i within in absurd (omega arith)
    go (Some x) p =
        let few = a.turns.few in
        ap (λ (J : List (List Event)). column J i) a.turns.lists ∙ recast_column L t a.turns.permuted (omega arith) i within ∙ ap (λ (y : ℕ). map (moved (to t) 0) (column L y)) (sym p)

-- what the names back are for
pub undoes : (f : Option Fault) (L : List (List Event)) (t b : List ℕ) → Judged f L → length t ≡ 32 → length b ≡ 32 → ((j : ℕ) → j < 32 → get_or b j 0 ≡ from t j) → recast_trouble f L t ≡ None → Undoes L t b
undoes None L t b j n m inverse e =
    let x = turned None L t j n e in
    let few = x.few in
    let long : length L ≤ length t = omega arith in
    let wide : length L ≤ length b = omega arith in
    let back : (i : ℕ) → i < length L → to b i ≡ from t i = λ i l. inverse i (omega arith) in
    record {
      permutes = x.permuted;
      fault = undone_trouble L t b j x.permuted long wide back;
      lists = undone_lists L t b j x.permuted long wide back;
    }
undoes (Some f) L t b j n m inverse e = absurd (let z : ◌≡◌ {A = ℕ} 0 1 = cc in omega arith)

pub exactly : (f : Option Fault) (L : List (List Event)) (t : List ℕ) → Judged f L → length t ≡ 32 → Exactly f L t
exactly f L t j n = record { permuted = λ e. let x = turned f L t j n e in (x.whole, x.permuted); stands = stands f j }
  where
    stands : (h : Option Fault) → Judged h L → h ≡ None → Permutes t (length L) → recast_trouble h L t ≡ None
    stands None s e p = let few = s.few_instances in ap (λ (y : Bool). cond y None (Some (join_fault 32 5))) (permutes_yes t (length L) (omega arith) p)
    stands (Some x) s e p = absurd (let z : ◌≡◌ {A = ℕ} 0 1 = cc in omega arith)
