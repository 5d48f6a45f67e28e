-- What any chart answers is small.
use Rattle.std.proofs.Common.{◌≡◌, ℕ, ◌<◌, ◌≤◌, List, [], length, Some, None, Option, refl, ap, inl, inr, arith}
use Rattle.std.proofs.lemmas.List.{get_or_past}
use Rattle.std.proofs.lemmas.List.Sums.{get_or-le-sum_by}
use Rattle.std.proofs.lemmas.Bool.{cases_lt, cases_eq}
use Rattle.charts.specs.declared.parts.Event.{Event}
use Rattle.charts.specs.declared.faults.Fault.{Fault}
use Rattle.charts.specs.Events.{no_event, environment, output, input, Message}
use Rattle.charts.specs.Judged.{Judged}
use Rattle.charts.specs.Lists.{At, column, count_of, event_of, size}
use Rattle.charts.specs.Span.{span}
use Rattle.charts.proofs.Spans.{sound_span}

-- an instance has no more events than the chart
pub count_size : (L : List (List Event)) (i : ℕ) → count_of L i ≤ size L
count_size L i =
    elim (cases_lt i (length L))
    [ inl l ↦ get_or-le-sum_by length L i [] l | inr l ↦ let z = ap length (get_or_past L i [] l) in omega arith ]

-- past its count an instance has no event
pub past_count : (L : List (List Event)) (i k : ℕ) → count_of L i ≤ k → event_of L i k ≡ no_event
past_count L i k h = get_or_past (column L i) k no_event h

module _ (L : List (List Event)) (i : ℕ) where
  pub count_small : (t : Option Fault) → Judged t L → count_of L i ≤ 4096
  count_small None j = let a = count_size L i in let b = j.few_events in omega arith
  count_small (Some f) j = let z = ap (λ (K : List (List Event)). count_of K i) j in omega arith

  pub number_small : (t : Option Fault) (k : ℕ) → Judged t L → (event_of L i k).number ≤ 4095
  number_small None k j =
      elim (cases_lt k (count_of L i)) [
        | inl l ↦ j.numbers i k (event_of L i k) (record { within = l; is = refl })
        | inr l ↦ let z = ap (λ (e : Event). e.number) (past_count L i k l) in omega arith
      ]
  number_small (Some f) k j = let z = ap (λ (K : List (List Event)). (event_of K i k).number) j in omega arith

pub span_small : (L : List (List Event)) (t : Option Fault) → Judged t L → span L ≤ 4096
span_small L None j = sound_span L j
span_small L (Some f) j = let z = ap span j in omega arith

-- a peer that is not the environment is an instance
pub peer_small : (L : List (List Event)) (i k : ℕ) (t : Option Fault) → Judged t L → ((event_of L i k).peer ≡ environment → ⊥) → (event_of L i k).peer < 32
peer_small L i k None j n =
    let e = event_of L i k in
    let few = j.few_instances in
    elim (cases_lt k (count_of L i)) [
      | inl l ↦
          let a : At L i k e = record { within = l; is = refl } in
          let b = j.kinds i k e a in
          let b0 = b.0 in
          let b1 = b.1 in
          let of_message : Message e → e.peer < 32 = λ m. elim (j.message_peers i k e a m) [ inl p ↦ omega arith | inr p ↦ absurd (n p) ] in
          elim (cases_eq e.kind output) [
            | inl o ↦ of_message (inl o)
            | inr o ↦ elim (cases_eq e.kind input) [ inl p ↦ of_message (inr p) | inr p ↦ absurd (n (j.action_peers i k e a (omega arith))) ]
          ]
      | inr l ↦ let z = ap (λ (x : Event). x.peer) (past_count L i k l) in omega arith
    ]
peer_small L i k (Some f) j n = let z = ap (λ (K : List (List Event)). (event_of K i k).peer) j in omega arith

pub width_small : (L : List (List Event)) (t : Option Fault) → Judged t L → length L ≤ 32
width_small L None j = j.few_instances
width_small L (Some f) j = let z = ap length j in omega arith
