-- What the sizes of two charts tell of their join.
use Rattle.std.proofs.Common.{◌≡◌, ℕ, ◌<◌, Bool, true, false, cond, List, Some, None, Ok, Err, Option, is_some, refl, ap, ◌∙◌, arith}
use Rattle.charts.specs.declared.parts.Event.{Event}
use Rattle.charts.specs.declared.faults.Fault.{Fault}
use Rattle.charts.specs.declared.parts.Summary.{Summary}
use Rattle.charts.specs.Judged.{Judged, summed, unspoiled}
use Rattle.charts.specs.Lists.{count_of}
use Rattle.charts.proofs.Spans.{sound_span}
use Rattle.charts.proofs.Summaries.{summed_ok}
use Rattle.joining.specs.Joined.{fits, join_fault, join_trouble, join_lists}
use Rattle.joins.specs.Weighed.{sized, weighed, Small, limited_to}

pub summed_small : (t : Option Fault) (L : List (List Event)) (s : Summary) → Judged t L → Ok s ≡ summed t L → Small s
summed_small None L s j e =
    let a = summed_ok None L s e in
    let w = a.width in
    let v = a.events in
    let p = a.span in
    let few = j.few_instances in
    let events = j.few_events in
    let high = sound_span L j in
    record { width = omega arith; events = omega arith; span = omega arith }
summed_small (Some f) L s j e = absurd (let z : ◌≡◌ {A = ℕ} 0 1 = cc in omega arith)

limits : (layer : ℕ) (J : List (List Event)) (b : Bool) → cond b (Ok (sized J)) (Err (join_fault 31 layer)) ≡ summed (cond b None (Some (join_fault 31 layer))) (unspoiled (cond b None (Some (join_fault 31 layer))) J)
limits layer J true = refl
limits layer J false = refl

-- the size of the join, within the limits or past them, from those of its parts
pub limited_so : (layer : ℕ) (f g : Option Fault) (L K J : List (List Event)) (a b s : Summary) → Ok (a, b) ≡ weighed f g L K → (a ≡ sized L → b ≡ sized K → s ≡ sized J) →
    limited_to layer s ≡ summed (join_trouble layer f g J) (join_lists layer f g J)
limited_so layer None None L K J a b s e same =
    let sizes : ◌≡◌ {A = Summary × Summary} (a, b) (sized L, sized K) = cc in
    ap (limited_to layer) (same (ap (λ (x : Summary × Summary). x.0) sizes) (ap (λ (x : Summary × Summary). x.1) sizes)) ∙ limits layer J (fits J)
limited_so layer None (Some g) L K J a b s e same = absurd (let z : ◌≡◌ {A = ℕ} 0 1 = cc in omega arith)
limited_so layer (Some f) g L K J a b s e same = absurd (let z : ◌≡◌ {A = ℕ} 0 1 = cc in omega arith)

whole_limits : (layer : ℕ) (J : List (List Event)) (b : Bool) → is_some (cond b None (Some (join_fault 31 layer))) ≡ false → unspoiled (cond b None (Some (join_fault 31 layer))) J ≡ J
whole_limits layer J true e = refl
whole_limits layer J false e = absurd (let z : ◌≡◌ {A = ℕ} 0 1 = cc in omega arith)

-- a join without a fault has the joined lists
pub whole_from : (layer : ℕ) (f g : Option Fault) (J : List (List Event)) → is_some (join_trouble layer f g J) ≡ false → join_lists layer f g J ≡ J
whole_from layer None None J e = whole_limits layer J (fits J) e
whole_from layer None (Some g) J e = absurd (let z : ◌≡◌ {A = ℕ} 0 1 = cc in omega arith)
whole_from layer (Some f) g J e = absurd (let z : ◌≡◌ {A = ℕ} 0 1 = cc in omega arith)

-- a join with an event has no fault
pub counted_whole : (layer : ℕ) (f g : Option Fault) (J : List (List Event)) (i k : ℕ) → k < count_of (join_lists layer f g J) i → is_some (join_trouble layer f g J) ≡ false
counted_whole layer f g J i k h = go (join_trouble layer f g J) h
  where
    go : (t : Option Fault) → k < count_of (unspoiled t J) i → is_some t ≡ false
    go None l = refl
    go (Some x) l = absurd (omega arith)
