-- The events of a list of slots.
use Rattle.std.proofs.Common.{◌≡◌, ℕ, ◌<◌, List, length, get_or, sym, ap, ◌∙◌, arith}
use Rattle.std.proofs.lemmas.List.{ext_get_or, get_or-map, length-map}
use Rattle.charts.specs.declared.parts.Event.{Event}
use Rattle.charts.specs.Events.{no_event}
use Rattle.charts.specs.Lists.{At, column}
use Rattle.copies.specs.declared.parts.Slot.{Slot}
use Rattle.copies.specs.Grids.{no_slot}
use Rattle.copies.specs.Lists.{events_in}

-- slots that have these events one by one have this list of them
pub same_events : (ss : List Slot) (es : List Event) → length ss ≡ length es → ((k : ℕ) → k < length es → (get_or ss k no_slot).event ≡ get_or es k no_event) → events_in ss ≡ es
same_events ss es n each =
    let m = length-map ss (λ s. s.event) in
    ext_get_or no_event (events_in ss) es (omega arith) (λ k h. let b : k < length ss = omega arith in get_or-map (λ s. s.event) ss k no_slot no_event b ∙ each k (omega arith))

-- slots with the same events one by one have the same list of them
pub same_slots : (ss ts : List Slot) → length ss ≡ length ts → ((k : ℕ) → (get_or ss k no_slot).event ≡ (get_or ts k no_slot).event) → events_in ss ≡ events_in ts
same_slots ss ts n each =
    let m = length-map ts (λ s. s.event) in
    same_events ss (events_in ts) (omega arith) (λ k h. let b : k < length ts = omega arith in each k ∙ sym (get_or-map (λ s. s.event) ts k no_slot no_event b))

-- the slots of an instance have its events
pub event_at : (L : List (List Event)) (i k : ℕ) (ss : List Slot) → events_in ss ≡ column L i → k < length ss → At L i k (get_or ss k no_slot).event
event_at L i k ss same h =
    let m = length-map ss (λ s. s.event) in
    let n = ap length same in
    record { within = omega arith; is = ap (λ (es : List Event). get_or es k no_event) (sym same) ∙ get_or-map (λ s. s.event) ss k no_slot no_event h }
