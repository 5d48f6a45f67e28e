-- The test for a message decides it.
use Rattle.std.proofs.Common.{◌≡◌, true, eqb, inl, inr, ⊎_elim}
use Rattle.std.proofs.lemmas.Bool.{eq-eqb, eqb-true, or_cases, or_left, or_right}
use Rattle.charts.specs.declared.parts.Event.{Event}
use Rattle.charts.specs.Events.{output, input, Message, is_message}

pub message_yes : (e : Event) → Message e → is_message e ≡ true
message_yes e m =
    ⊎_elim (λ o. or_left (eqb e.kind output) (eqb e.kind input) (eq-eqb e.kind output o))
    (λ o. or_right (eqb e.kind output) (eqb e.kind input) (eq-eqb e.kind input o)) m

pub message_from : (e : Event) → is_message e ≡ true → Message e
message_from e t =
    elim (or_cases (eqb e.kind output) (eqb e.kind input) t)
    [ inl o ↦ inl (eqb-true e.kind output o) | inr o ↦ inr (eqb-true e.kind input o) ]
