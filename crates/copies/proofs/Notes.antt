-- The messages of a chart, noted event by event.
use Rattle.std.proofs.Common.{◌≡◌, ℕ, ◌+◌, ◌<◌, ◌≤◌, true, false, cond, ◌&&◌, eqb, ltb, ◌⊎◌, List, Some, sym, refl, ap, ◌∙◌, inl, inr, arith}
use Rattle.std.proofs.lemmas.Bool.{cases_lt, cases_Bool, cond-true, cond-false, eqb-true, eq-eqb, lt-ltb, and_parts, and_from, both_ways}
use Rattle.charts.specs.declared.parts.Event.{Event}
use Rattle.charts.specs.Events.{event}
use Rattle.charts.specs.Lists.{At, count_of, event_of}
use Rattle.charts.specs.Sound.{Sound}
use Rattle.messages.specs.declared.ends.End.{End}
use Rattle.messages.specs.declared.ends.End.TheVariants.{Output, Input}
use Rattle.messages.specs.declared.places.MessagePlaces.{MessagePlaces}
use Rattle.messages.specs.Ends.{kind_of}
use Rattle.messages.specs.Places.{place_of}
use Rattle.copies.specs.Noted.{NotedBefore}

-- event l of instance j comes before event k of instance i
abbrev pub Earlier : ℕ → ℕ → ℕ → ℕ → Type 0
Earlier i k j l = (j < i) ⊎ ((j ≡ i) × (l < k))

-- the events of messages before event k of instance i have their places noted
abbrev pub NotedTo : List (List Event) → ℕ → ℕ → MessagePlaces → Type 0
NotedTo L i k m = (j l : ℕ) (e : Event) (end : End) → At L j l e → Earlier i k j l → e.kind ≡ kind_of end → place_of m end e.number ≡ Some l

-- an event before the next one is before this one, or is this one
earlier_or_same : (i k j l : ℕ) → Earlier i (k + 1) j l → Earlier i k j l ⊎ ((j ≡ i) × (l ≡ k))
earlier_or_same i k j l (inl h) = inl (inl h)
earlier_or_same i k j l (inr h) =
    let a = h.1 in
    elim (cases_lt l k) [ inl b ↦ inl (inr (h.0, b)) | inr b ↦ inr (h.0, (omega arith)) ]

module _ (L : List (List Event)) where
  -- the same place has the same event
  same_event : (i k j l : ℕ) (e f : Event) → At L i k e → At L j l f → j ≡ i → l ≡ k → f ≡ e
  same_event i k j l e f a b p q = sym b.is ∙ (λ t. event_of L (p t) (q t)) ∙ a.is

  -- an event of this kind and number
  pub at_kind : (i k kind m : ℕ) (e : Event) → At L i k e → e.kind ≡ kind → e.number ≡ m → At L i k (event kind e.peer m)
  at_kind i k kind m e a p q = record { within = a.within; is = a.is ∙ (λ t. record { kind = p t; peer = e.peer; number = q t }) }

  one_place : Sound L → (end : End) (m i k p j l q : ℕ) → At L i k (event (kind_of end) p m) → At L j l (event (kind_of end) q m) → (i ≡ j) × (k ≡ l)
  one_place s Output = s.one_output
  one_place s Input = s.one_input

  -- one event more
  pub noted_more : Sound L → (i k : ℕ) (e : Event) (m n : MessagePlaces) → At L i k e →
      ((x : End) (number : ℕ) → place_of n x number ≡ cond (eqb e.kind (kind_of x) && (eqb number e.number && ltb number 4096)) (Some k) (place_of m x number)) →
      NotedTo L i k m → NotedTo L i (k + 1) n
  noted_more s i k e m n a put noted j l f x b before of =
      put x f.number ∙
      (elim (cases_Bool (eqb e.kind (kind_of x) && (eqb f.number e.number && ltb f.number 4096))) [
        | inl t ↦
            let p = and_parts (eqb e.kind (kind_of x)) (eqb f.number e.number && ltb f.number 4096) t in
            let q = and_parts (eqb f.number e.number) (ltb f.number 4096) p.1 in
            let kind = eqb-true e.kind (kind_of x) p.0 in
            let same = eqb-true f.number e.number q.0 in
            let place = one_place s x e.number j l f.peer i k e.peer (at_kind j l (kind_of x) e.number f b of same) (at_kind i k (kind_of x) e.number e a kind refl) in
            cond-true _ (Some k) (place_of m x f.number) t ∙ ap Some (sym place.1)
        | inr t ↦ cond-false _ (Some k) (place_of m x f.number) t ∙ earlier t
      ])
    where
      here : j ≡ i → l ≡ k → (eqb e.kind (kind_of x) && (eqb f.number e.number && ltb f.number 4096)) ≡ true
      here p q =
          let same = same_event i k j l e f a b p q in
          let small = s.numbers j l f b in
          and_from (eqb e.kind (kind_of x)) _ (eq-eqb e.kind (kind_of x) (sym (ap (λ (y : Event). y.kind) same) ∙ of))
          (and_from (eqb f.number e.number) _ (eq-eqb f.number e.number (ap (λ (y : Event). y.number) same)) (lt-ltb f.number 4096 (omega arith)))

      earlier : (eqb e.kind (kind_of x) && (eqb f.number e.number && ltb f.number 4096)) ≡ false → place_of m x f.number ≡ Some l
      earlier t = elim (earlier_or_same i k j l before) [ inl h ↦ noted j l f x b h of | inr h ↦ absurd (both_ways _ t (here h.0 h.1)) ]

  -- one instance more
  pub noted_column : (i k : ℕ) (m : MessagePlaces) → count_of L i ≤ k → NotedTo L i k m → NotedBefore L (i + 1) m
  noted_column i k m h noted j l e x a before of = noted j l e x a earlier of
    where
      earlier : Earlier i k j l
      earlier =
          elim (cases_lt j i) [
            | inl b ↦ inl b
            | inr b ↦
                let p : j ≡ i = omega arith in
                let w = a.within in
                let c = ap (count_of L) p in
                inr (p, (omega arith))
          ]
