-- The computed span is one more than the greatest message number, or 0.
use Rattle.std.proofs.Common.{◌≡◌, ℕ, zero, suc, ◌<◌, ◌≤◌, max, Bool, true, false, cond, ◌⊎◌, List, [], ◌∷◌, length, get_or, sym, refl, ap, subst, inl, inr, arith}
use Rattle.std.proofs.lemmas.Bool.{cases_lt, cond-true}
use Rattle.charts.specs.declared.parts.Event.{Event}
use Rattle.charts.specs.Events.{Message, is_message, no_event}
use Rattle.charts.specs.Lists.{At}
use Rattle.charts.specs.Sound.{Sound}
use Rattle.charts.specs.Span.{above, span_of, span}
use Rattle.charts.proofs.Messages.{message_yes, message_from}

pub above_message : (e : Event) → Message e → above e ≡ suc e.number
above_message e m = cond-true (is_message e) (suc e.number) 0 (message_yes e m)

-- a message of one list has its number below the list's span
pub column_below : (es : List Event) (k : ℕ) → k < length es → Message (get_or es k no_event) → (get_or es k no_event).number < span_of es
column_below [] k h m = absurd (omega arith)
column_below (e ∷ es) zero h m = let a = above_message e m in omega arith
column_below (e ∷ es) (suc k) h m = let r = column_below es k (omega arith) m in omega arith

-- where a list's span stands
abbrev Reached : List Event → ℕ → Type 0
Reached es n = (n ≡ 0) ⊎ ((k : ℕ) × (k < length es) × Message (get_or es k no_event) × (suc (get_or es k no_event).number ≡ n))

head_reached : (e : Event) (es : List Event) (t : Bool) → is_message e ≡ t → Reached es (span_of es) → Reached (e ∷ es) (max (cond t (suc e.number) 0) (span_of es))
head_reached e es true y (inl z) = inr (zero, (omega arith), message_from e y, (omega arith))
head_reached e es true y (inr r) =
    elim (cases_lt (suc e.number) (span_of es)) [
      | inl l ↦ inr (suc r.0, (let a = r.1 in omega arith), r.2, (let b = r.3 in omega arith))
      | inr l ↦ inr (zero, (omega arith), message_from e y, (omega arith))
    ]
head_reached e es false y (inl z) = inl (omega arith)
head_reached e es false y (inr r) = inr (suc r.0, (let a = r.1 in omega arith), r.2, (let b = r.3 in omega arith))

pub column_reached : (es : List Event) → Reached es (span_of es)
column_reached [] = inl refl
column_reached (e ∷ es) = head_reached e es (is_message e) refl (column_reached es)

pub span_below : (L : List (List Event)) (i k : ℕ) (e : Event) → At L i k e → Message e → e.number < span L
span_below [] i k e a m = let h = a.within in absurd (omega arith)
span_below (es ∷ L) zero k e a m =
    let r = column_below es k a.within (subst Message (sym a.is) m) in
    let n = ap (λ (x : Event). x.number) a.is in
    omega arith
span_below (es ∷ L) (suc i) k e a m =
    let r = span_below L i k e (record { within = a.within; is = a.is }) m in omega arith

abbrev Highest : List (List Event) → ℕ → Type 0
Highest L n = (n ≡ 0) ⊎ ((i : ℕ) × (k : ℕ) × (e : Event) × At L i k e × Message e × (suc e.number ≡ n))

later : (es : List Event) (L : List (List Event)) (n : ℕ) → Highest L n → Highest (es ∷ L) n
later es L n (inl z) = inl z
later es L n (inr r) = inr (suc r.0, r.1, r.2, record { within = r.3.within; is = r.3.is }, r.4, r.5)

first : (es : List Event) (L : List (List Event)) (n : ℕ) → Reached es n → Highest (es ∷ L) n
first es L n (inl z) = inl z
first es L n (inr r) = inr (zero, r.0, get_or es r.0 no_event, record { within = r.1; is = refl }, r.2, r.3)

pub span_reached : (L : List (List Event)) → Highest L (span L)
span_reached [] = inl refl
span_reached (es ∷ L) =
    elim (cases_lt (span_of es) (span L)) [
      | inl l ↦ let e : max (span_of es) (span L) ≡ span L = omega arith in subst (Highest (es ∷ L)) (sym e) (later es L (span L) (span_reached L))
      | inr l ↦ let e : max (span_of es) (span L) ≡ span_of es = omega arith in subst (Highest (es ∷ L)) (sym e) (first es L (span_of es) (column_reached es))
    ]

-- every message number is below n, and n is 0 or one more than some message's number
pub record Spans (L : List (List Event)) (n : ℕ) : Type 0 where
  pub below : (i k : ℕ) (e : Event) → At L i k e → Message e → e.number < n
  pub reached : (n ≡ 0) ⊎ ((i : ℕ) × (k : ℕ) × (e : Event) × At L i k e × Message e × (suc e.number ≡ n))

pub spans : (L : List (List Event)) → Spans L (span L)
spans L = record { below = span_below L; reached = span_reached L }

-- only the span is above every message number and reached
span_least : (L : List (List Event)) (a b : ℕ) → Spans L a → Spans L b → a ≤ b
span_least L a b x y =
    elim x.reached [
      | inl z ↦ omega arith
      | inr h ↦ let below = y.below h.0 h.1 h.2 h.3 h.4 in let top = h.5 in omega arith
    ]

pub same_span : (L : List (List Event)) (a b : ℕ) → Spans L a → Spans L b → a ≡ b
same_span L a b x y = let low = span_least L a b x y in let high = span_least L b a y x in omega arith

-- a sound chart spans at most 4,096
pub sound_span : (L : List (List Event)) → Sound L → span L ≤ 4096
sound_span L s =
    elim (span_reached L)
    [ inl z ↦ omega arith | inr h ↦ let n = s.numbers h.0 h.1 h.2 h.3 in let top = h.5 in omega arith ]
