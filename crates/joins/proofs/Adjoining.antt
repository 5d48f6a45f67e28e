-- One chart beside another, from what its parts answer.
use Rattle.std.proofs.Common.{◌≡◌, ℕ, ◌+◌, ◌-◌, ◌<◌, ◌≤◌, List, map, length, get_or, Ok, Option, sym, ap, ◌∙◌, ap₂, arith}
use Rattle.std.proofs.lemmas.List.{length-map, get_or-map}
use Rattle.charts.specs.declared.parts.Event.{Event}
use Rattle.charts.specs.declared.faults.Fault.{Fault}
use Rattle.charts.specs.declared.parts.Summary.{Summary}
use Rattle.charts.specs.Events.{no_event}
use Rattle.charts.specs.Judged.{summed}
use Rattle.charts.specs.Lists.{column, count_of, event_of}
use Rattle.charts.specs.Span.{span}
use Rattle.joining.specs.Beside.{beside}
use Rattle.joining.specs.Joined.{join_trouble, join_lists}
use Rattle.joining.specs.Moves.{moved}
use Rattle.joining.proofs.Besides.{beside_length, beside_size, beside_span, beside_right}
use Rattle.joins.specs.Weighed.{weighed, limited_to}
use Rattle.joins.proofs.Weights.{limited_so, whole_from, counted_whole}

-- the size of one chart beside another, from theirs
pub beside_summed : (f g : Option Fault) (L K : List (List Event)) (a b : Summary) → Ok (a, b) ≡ weighed f g L K →
    limited_to 4 (record { width = a.width + b.width; events = a.events + b.events; span = a.span + b.span }) ≡ summed (join_trouble 4 f g (beside L K)) (join_lists 4 f g (beside L K))
beside_summed f g L K a b weighed =
    limited_so 4 f g L K (beside L K) a b _ weighed
    (λ p q.
    ap₂ (λ (x : Summary) (y : Summary). record { width = x.width + y.width; events = x.events + y.events; span = x.span + y.span }) p q ∙
    (λ t. record { width = sym (beside_length L K) t; events = sym (beside_size L K) t; span = sym (beside_span L K) t }))

-- an event of the right chart's instances
module _ (f g : Option Fault) (L K : List (List Event)) (i k : ℕ) (within : k < count_of (join_lists 4 f g (beside L K)) i) (past : length L ≤ i) where
  right_side : column (join_lists 4 f g (beside L K)) i ≡ map (moved (λ i. i + length L) (span L)) (column K (i - length L))
  right_side =
      let whole = whole_from 4 f g (beside L K) (counted_whole 4 f g (beside L K) i k within) in
      ap (λ (J : List (List Event)). column J i) whole ∙ beside_right L K i past

  pub right_event : event_of (join_lists 4 f g (beside L K)) i k ≡ moved (λ i. i + length L) (span L) (event_of K (i - length L) k)
  right_event =
      let n = ap length right_side ∙ length-map (column K (i - length L)) (moved (λ i. i + length L) (span L)) in
      ap (λ (es : List Event). get_or es k no_event) right_side ∙
      get_or-map (moved (λ i. i + length L) (span L)) (column K (i - length L)) k no_event no_event (omega arith)
