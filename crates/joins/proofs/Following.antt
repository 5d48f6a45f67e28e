-- One chart after another, from what its parts answer.
use Rattle.std.proofs.Common.{◌≡◌, ℕ, ◌+◌, ◌-◌, ◌<◌, ◌≤◌, max, List, false, is_some, Ok, Option, sym, ap, ◌∙◌, ap₂}
use Rattle.charts.specs.declared.parts.Event.{Event}
use Rattle.charts.specs.declared.faults.Fault.{Fault}
use Rattle.charts.specs.declared.parts.Summary.{Summary}
use Rattle.charts.specs.Judged.{summed}
use Rattle.charts.specs.Lists.{count_of, event_of}
use Rattle.charts.specs.Span.{span}
use Rattle.joining.specs.After.{after}
use Rattle.joining.specs.Joined.{join_trouble, join_lists}
use Rattle.joining.specs.Moves.{moved}
use Rattle.joining.proofs.Afters.{after_length, after_size, after_span, after_count, after_first, after_second}
use Rattle.joins.specs.Weighed.{weighed, limited_to}
use Rattle.joins.proofs.Weights.{limited_so, whole_from}

-- the size of one chart after another, from theirs
pub after_summed : (f g : Option Fault) (L K : List (List Event)) (a b : Summary) (w : ℕ) → Ok (a, b) ≡ weighed f g L K → w ≡ max a.width b.width →
    limited_to 3 (record { width = w; events = a.events + b.events; span = a.span + b.span }) ≡ summed (join_trouble 3 f g (after L K)) (join_lists 3 f g (after L K))
after_summed f g L K a b w weighed wide =
    let of : ℕ → Summary → Summary → Summary = λ n x y. record { width = n; events = x.events + y.events; span = x.span + y.span } in
    limited_so 3 f g L K (after L K) a b _ weighed
    (λ p q.
    ap (λ (n : ℕ). of n a b) wide ∙ ap₂ (λ (x : Summary) (y : Summary). of (max x.width y.width) x y) p q ∙
    (λ t. record { width = sym (after_length L K) t; events = sym (after_size L K) t; span = sym (after_span L K) t }))

-- the count and the events of one chart after another, where both are whole
module _ (f g : Option Fault) (L K : List (List Event)) (i : ℕ) (w : is_some (join_trouble 3 f g (after L K)) ≡ false) where
  pub after_counted : count_of (join_lists 3 f g (after L K)) i ≡ count_of L i + count_of K i
  after_counted = ap (λ (J : List (List Event)). count_of J i) (whole_from 3 f g (after L K) w) ∙ after_count L K i

  pub after_begins : (k : ℕ) → k < count_of L i → event_of (join_lists 3 f g (after L K)) i k ≡ event_of L i k
  after_begins k l = ap (λ (J : List (List Event)). event_of J i k) (whole_from 3 f g (after L K) w) ∙ after_first L K i k l

  pub after_goes_on : (k : ℕ) → count_of L i ≤ k → event_of (join_lists 3 f g (after L K)) i k ≡ moved (λ i. i) (span L) (event_of K i (k - count_of L i))
  after_goes_on k l = ap (λ (J : List (List Event)). event_of J i k) (whole_from 3 f g (after L K) w) ∙ after_second L K i k l
