-- The laws of joins, as charts: with their faults.
use Rattle.std.proofs.Common.{◌≡◌, ℕ, Bool, true, false, cond, ◌&&◌, leb, List, length, Some, None, Option, sym, refl, ap, ◌∙◌, subst, arith}
use Rattle.std.proofs.lemmas.Bool.{and_from, le-leb}
use Rattle.charts.specs.declared.parts.Event.{Event}
use Rattle.charts.specs.declared.faults.Fault.{Fault}
use Rattle.charts.specs.Judged.{Judged, unspoiled}
use Rattle.charts.specs.Lists.{size}
use Rattle.charts.specs.Sound.{Sound}
use Rattle.charts.specs.Span.{span}
use Rattle.charts.proofs.Spans.{sound_span}
use Rattle.joining.specs.Joined.{fits, join_fault, join_trouble, join_lists, Same, Kept}
use Rattle.joining.specs.After.{after, AfterKeeps, AfterRegroups}
use Rattle.joining.specs.Beside.{beside, BesideKeeps, BesideRegroups}
use Rattle.joining.proofs.Afters.{after_length, after_size, after_span}
use Rattle.joining.proofs.Besides.{beside_length, beside_size, beside_span}
use Rattle.joining.proofs.Judging.{Within, within_limits}
use Rattle.joining.proofs.Recasts.{empty_sound}
use Rattle.joining.proofs.Regrouped.{after_empty_first, after_empty_second, beside_empty_left, beside_empty_right, after_regrouped, beside_regrouped}

limits_fit : (J : List (List Event)) → Within J → fits J ≡ true
limits_fit J w =
    and_from (leb (length J) 32) (leb (size J) 4096 && leb (span J) 4096) (le-leb (length J) 32 w.width)
    (and_from (leb (size J) 4096) (leb (span J) 4096) (le-leb (size J) 4096 w.events) (le-leb (span J) 4096 w.spans))

-- a join that stands
pub record Stands (layer : ℕ) (f g : Option Fault) (J : List (List Event)) : Type 0 where
  pub first : f ≡ None
  pub second : g ≡ None
  pub within : Within J
  pub lists : join_lists layer f g J ≡ J

stands_limits : (layer : ℕ) (J : List (List Event)) (b : Bool) → fits J ≡ b → cond b None (Some (join_fault 31 layer)) ≡ None →
    Within J × (unspoiled (cond b None (Some (join_fault 31 layer))) J ≡ J)
stands_limits layer J true y e = (within_limits J y, refl)
stands_limits layer J false y e = absurd (let z : ◌≡◌ {A = ℕ} 0 1 = cc in omega arith)

pub stands_from : (layer : ℕ) (f g : Option Fault) (J : List (List Event)) → join_trouble layer f g J ≡ None → Stands layer f g J
stands_from layer None None J e = let r = stands_limits layer J (fits J) refl e in record { first = refl; second = refl; within = r.0; lists = r.1 }
stands_from layer None (Some g) J e = absurd (let z : ◌≡◌ {A = ℕ} 0 1 = cc in omega arith)
stands_from layer (Some f) g J e = absurd (let z : ◌≡◌ {A = ℕ} 0 1 = cc in omega arith)

pub stands_when : (layer : ℕ) (f g : Option Fault) (J : List (List Event)) → f ≡ None → g ≡ None → Within J → join_trouble layer f g J ≡ None
stands_when layer None None J a b w = ap (λ (y : Bool). cond y None (Some (join_fault 31 layer))) (limits_fit J w)
stands_when layer None (Some g) J a b w = absurd (let z : ◌≡◌ {A = ℕ} 0 1 = cc in omega arith)
stands_when layer (Some f) g J a b w = absurd (let z : ◌≡◌ {A = ℕ} 0 1 = cc in omega arith)

-- the sizes of a sound chart are within the limits
sound_within : (L : List (List Event)) → Sound L → Within L
sound_within L s = record { width = s.few_instances; events = s.few_events; spans = sound_span L s }

-- joined with an empty chart, a chart keeps its fault and its lists
neutral : (layer : ℕ) (f g h : Option Fault) (J K : List (List Event)) → join_trouble layer f g J ≡ h → J ≡ K → Judged h K → (h ≡ None → unspoiled h J ≡ J) → join_lists layer f g J ≡ K
neutral layer f g None J K e j s u = ap (λ (x : Option Fault). unspoiled x J) e ∙ j
neutral layer f g (Some x) J K e j s u = ap (λ (y : Option Fault). unspoiled y J) e ∙ sym s

kept_first : (layer : ℕ) (f : Option Fault) (J L : List (List Event)) → J ≡ L → Judged f L → join_trouble layer f None J ≡ f
kept_first layer None J L e s = stands_when layer None None J refl refl (subst Within (sym e) (sound_within L s))
kept_first layer (Some f) J L e s = refl

kept_second : (layer : ℕ) (g : Option Fault) (J K : List (List Event)) → J ≡ K → Judged g K → join_trouble layer None g J ≡ g
kept_second layer None J K e s = stands_when layer None None J refl refl (subst Within (sym e) (sound_within K s))
kept_second layer (Some g) J K e s = refl

first_kept : (layer : ℕ) (f g : Option Fault) (J L : List (List Event)) → g ≡ None → J ≡ L → Judged f L → Kept (join_trouble layer f g J) f (join_lists layer f g J) L
first_kept layer f None J L n e s =
    let t = kept_first layer f J L e s in record { fault = t; lists = neutral layer f None f J L t e s (λ z. ap (λ (x : Option Fault). unspoiled x J) z) }
first_kept layer f (Some g) J L n e s = absurd (let z : ◌≡◌ {A = ℕ} 0 1 = cc in omega arith)

second_kept : (layer : ℕ) (f g : Option Fault) (J K : List (List Event)) → f ≡ None → J ≡ K → Judged g K → Kept (join_trouble layer f g J) g (join_lists layer f g J) K
second_kept layer None g J K n e s =
    let t = kept_second layer g J K e s in record { fault = t; lists = neutral layer None g g J K t e s (λ z. ap (λ (x : Option Fault). unspoiled x J) z) }
second_kept layer (Some f) g J K n e s = absurd (let z : ◌≡◌ {A = ℕ} 0 1 = cc in omega arith)

module _ (f g : Option Fault) (L K : List (List Event)) (jl : Judged f L) (jk : Judged g K) where
  pub after_keeps : AfterKeeps f g L K
  after_keeps =
      record {
        first_empty = λ n e. second_kept 3 f g (after L K) K n (ap (λ (X : List (List Event)). after X K) e ∙ after_empty_first K) jk;
        second_empty = λ n e. first_kept 3 f g (after L K) L n (ap (after L) e ∙ after_empty_second L) jl;
      }

  pub beside_keeps : BesideKeeps f g L K
  beside_keeps =
      record {
        left_empty = λ n e. second_kept 4 f g (beside L K) K n (ap (λ (X : List (List Event)). beside X K) e ∙ beside_empty_left K) jk;
        right_empty = λ n e. first_kept 4 f g (beside L K) L n (ap (beside L) e ∙ beside_empty_right L) jl;
      }

-- three charts under one join, whichever two are joined first
module _ (layer : ℕ) (op : List (List Event) → List (List Event) → List (List Event)) (f g h : Option Fault) (L K M : List (List Event))
    (group : op (op L K) M ≡ op L (op K M)) (left_in : Within (op (op L K) M) → Within (op L K)) (right_in : Within (op L (op K M)) → Within (op K M)) where
  left_trouble : Option Fault
  left_trouble = join_trouble layer f g (op L K)

  left_lists : List (List Event)
  left_lists = join_lists layer f g (op L K)

  right_trouble : Option Fault
  right_trouble = join_trouble layer g h (op K M)

  right_lists : List (List Event)
  right_lists = join_lists layer g h (op K M)

  forth : join_trouble layer left_trouble h (op left_lists M) ≡ None →
      (join_trouble layer f right_trouble (op L right_lists) ≡ None) × (join_lists layer f right_trouble (op L right_lists) ≡ join_lists layer left_trouble h (op left_lists M))
  unfolding left_trouble left_lists right_trouble right_lists
  forth e =
      let outer = stands_from layer left_trouble h (op left_lists M) e in
      let inner = stands_from layer f g (op L K) outer.first in
      let whole = ap (λ (X : List (List Event)). op X M) inner.lists in
      let all : Within (op L (op K M)) = subst Within (whole ∙ group) outer.within in
      let t = stands_when layer g h (op K M) inner.second outer.second (right_in all) in
      let r = stands_from layer g h (op K M) t in
      let joined = ap (op L) r.lists in
      let u = stands_when layer f right_trouble (op L right_lists) inner.first t (subst Within (sym joined) all) in
      (u, (stands_from layer f right_trouble (op L right_lists) u).lists ∙ joined ∙ sym group ∙ sym whole ∙ sym outer.lists)

  back : join_trouble layer f right_trouble (op L right_lists) ≡ None → join_trouble layer left_trouble h (op left_lists M) ≡ None
  unfolding left_trouble left_lists right_trouble right_lists
  back e =
      let outer = stands_from layer f right_trouble (op L right_lists) e in
      let inner = stands_from layer g h (op K M) outer.second in
      let whole = ap (op L) inner.lists in
      let all : Within (op (op L K) M) = subst Within (whole ∙ sym group) outer.within in
      let t = stands_when layer f g (op L K) outer.first inner.first (left_in all) in
      let r = stands_from layer f g (op L K) t in
      stands_when layer left_trouble h (op left_lists M) t inner.second (subst Within (sym (ap (λ (X : List (List Event)). op X M) r.lists)) all)

  pub regrouped : Same (join_trouble layer (join_trouble layer f g (op L K)) h (op (join_lists layer f g (op L K)) M))
      (join_trouble layer f (join_trouble layer g h (op K M)) (op L (join_lists layer g h (op K M))))
      (join_lists layer (join_trouble layer f g (op L K)) h (op (join_lists layer f g (op L K)) M))
      (join_lists layer f (join_trouble layer g h (op K M)) (op L (join_lists layer g h (op K M))))
  unfolding left_trouble left_lists right_trouble right_lists
  regrouped = record { forth = forth; back = back }

-- a spoiled chart has no instances, so its lists are sound as well
judged_sound : (f : Option Fault) (L : List (List Event)) → Judged f L → Sound L
judged_sound None L j = j
judged_sound (Some f) L j = subst Sound (sym j) empty_sound

module _ (f g h : Option Fault) (L K M : List (List Event)) where
  pub after_same : AfterRegroups f g h L K M
  after_same =
      regrouped 3 after f g h L K M (after_regrouped L K M)
      (λ w.
      let a = after_length (after L K) M in
      let b = after_size (after L K) M in
      let c = after_span (after L K) M in
      let x = w.width in
      let y = w.events in
      let z = w.spans in
      record { width = omega arith; events = omega arith; spans = omega arith })
      (λ w.
      let a = after_length L (after K M) in
      let b = after_size L (after K M) in
      let c = after_span L (after K M) in
      let x = w.width in
      let y = w.events in
      let z = w.spans in
      record { width = omega arith; events = omega arith; spans = omega arith })

  pub beside_same : Judged g K → Judged h M → BesideRegroups f g h L K M
  beside_same jk jm =
      regrouped 4 beside f g h L K M (beside_regrouped L K M (judged_sound g K jk) (judged_sound h M jm))
      (λ w.
      let a = beside_length (beside L K) M in
      let b = beside_size (beside L K) M in
      let c = beside_span (beside L K) M in
      let x = w.width in
      let y = w.events in
      let z = w.spans in
      record { width = omega arith; events = omega arith; spans = omega arith })
      (λ w.
      let a = beside_length L (beside K M) in
      let b = beside_size L (beside K M) in
      let c = beside_span L (beside K M) in
      let x = w.width in
      let y = w.events in
      let z = w.spans in
      record { width = omega arith; events = omega arith; spans = omega arith })
