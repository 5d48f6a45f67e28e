-- A moved event, and a moved list.
use Rattle.std.proofs.Common.{◌≡◌, ℕ, zero, suc, ◌+◌, ◌<◌, eqb, List, [], ◌∷◌, map, length, get_or, sym, refl, ap, ◌∙◌, inl, inr, arith}
use Rattle.std.proofs.lemmas.List.{length-map, get_or-map, get_or_past}
use Rattle.std.proofs.lemmas.Bool.{cond-true, cond-false, eq-eqb, ne_eqb, cases_Bool, cases_eq, cases_lt, or_from}
use Rattle.charts.specs.declared.parts.Event.{Event}
use Rattle.charts.specs.Events.{no_event, environment, is_message, Message, action, output, input}
use Rattle.charts.specs.Lists.{At, column, count_of, event_of}
use Rattle.charts.proofs.Messages.{message_yes}
use Rattle.joining.specs.Moves.{risen, named, moved}

module _ (f : ℕ → ℕ) where
  pub named_environment : (p : ℕ) → p ≡ environment → named f p ≡ environment
  named_environment p e = cond-true (eqb p environment) environment (f p) (eq-eqb p environment e)

  pub named_instance : (p : ℕ) → (p ≡ environment → ⊥) → named f p ≡ f p
  named_instance p n = cond-false (eqb p environment) environment (f p) (ne_eqb p environment n)

pub risen_message : (s : ℕ) (e : Event) → Message e → risen s e ≡ e.number + s
risen_message s e m = cond-true (is_message e) (e.number + s) e.number (message_yes e m)

pub risen_action : (s : ℕ) (e : Event) → e.kind ≡ action → risen s e ≡ e.number
risen_action s e a =
    cond-false (is_message e) (e.number + s) e.number
    (or_from (eqb e.kind output) (eqb e.kind input) (ne_eqb e.kind output (λ o. omega arith)) (ne_eqb e.kind input (λ i. omega arith)))

-- an event of which nothing moves
pub moved_nowhere : (f : ℕ → ℕ) → ((i : ℕ) → f i ≡ i) → (e : Event) → moved f 0 e ≡ e
moved_nowhere f stays e =
    let p : named f e.peer ≡ e.peer = elim (cases_eq e.peer environment) [ inl y ↦ named_environment f e.peer y ∙ sym y | inr n ↦ named_instance f e.peer n ∙ stays e.peer ] in
    let n : risen 0 e ≡ e.number =
    elim (cases_Bool (is_message e)) [ inl y ↦ cond-true (is_message e) (e.number + 0) e.number y ∙ omega arith | inr y ↦ cond-false (is_message e) (e.number + 0) e.number y ] in
    λ t. record { kind = e.kind; peer = p t; number = n t }

-- an event of lists that are mapped event by event
module _ (g : Event → Event) where
  pub map_column : (L : List (List Event)) (i : ℕ) → column (map (map g) L) i ≡ map g (column L i)
  map_column [] i = refl
  map_column (es ∷ L) zero = refl
  map_column (es ∷ L) (suc i) = map_column L i

  pub map_count : (L : List (List Event)) (i : ℕ) → count_of (map (map g) L) i ≡ count_of L i
  map_count L i = ap length (map_column L i) ∙ length-map (column L i) g

  pub map_at : (L : List (List Event)) (i k : ℕ) (e : Event) → At L i k e → At (map (map g) L) i k (g e)
  map_at L i k e a =
      let c = map_count L i in
      let w = a.within in
      record {
        within = omega arith;
        is = ap (λ (es : List Event). get_or es k no_event) (map_column L i) ∙ get_or-map g (column L i) k no_event no_event a.within ∙ ap g a.is;
      }

  pub at_map : (L : List (List Event)) (i k : ℕ) (e : Event) → At (map (map g) L) i k e → (d : Event) × At L i k d × (e ≡ g d)
  at_map L i k e a =
      let c = map_count L i in
      let w = a.within in
      let h : k < count_of L i = omega arith in (
        event_of L i k,
        record { within = h; is = refl },
        sym a.is ∙ ap (λ (es : List Event). get_or es k no_event) (map_column L i) ∙ get_or-map g (column L i) k no_event no_event h,
      )

-- an instance with an event is one of the chart's
pub at_instance : (L : List (List Event)) (i k : ℕ) (e : Event) → At L i k e → i < length L
at_instance L i k e a =
    elim (cases_lt i (length L)) [ inl l ↦ l | inr l ↦ absurd (let w = a.within in let z = ap length (get_or_past L i [] l) in omega arith) ]
