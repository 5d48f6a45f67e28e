-- A chart that is made of the moved events of two sound charts, and of no others, is sound.
use Rattle.std.proofs.Common.{◌≡◌, ℕ, ◌+◌, ◌<◌, ◌≤◌, ◌⊎◌, List, length, sym, refl, ap, ◌∙◌, subst, ap₂, subst₂, inl, inr, arith}
use Rattle.std.proofs.lemmas.Bool.{cases_eq}
use Rattle.charts.specs.declared.parts.Event.{Event}
use Rattle.charts.specs.Events.{event, output, input, action, environment, Message}
use Rattle.charts.specs.Lists.{At, size}
use Rattle.charts.specs.Sound.{Sound}
use Rattle.charts.specs.Span.{span}
use Rattle.charts.proofs.Spans.{span_below}
use Rattle.joining.specs.Moves.{moved}
use Rattle.joining.proofs.Moving.{named_environment, named_instance, risen_message, risen_action, at_instance}

-- the events of L stand in J, at other places, with instances renamed by f and messages raised by s
pub record Part (J L : List (List Event)) (f : ℕ → ℕ) (s : ℕ) : Type 0 where
  pub place : ℕ → ℕ → ℕ
  pub inside : (i : ℕ) → i < length L → f i < length J
  pub forth : (i k : ℕ) (e : Event) → At L i k e → At J (f i) (place i k) (moved f s e)

-- event l of instance j in J comes from an event of L
pub record From (J L : List (List Event)) (f : ℕ → ℕ) (s : ℕ) (p : Part J L f s) (j l : ℕ) (e : Event) : Type 0 where
  pub instance : ℕ
  pub index : ℕ
  pub source : Event
  pub there : At L instance index source
  pub here : (j ≡ f instance) × (l ≡ p.place instance index)
  pub is : e ≡ moved f s source

module _ (J L : List (List Event)) (f : ℕ → ℕ) (s : ℕ) (p : Part J L f s) (sound : Sound L) (narrow : length J ≤ 32) where
  source_kind : (j l : ℕ) (e : Event) (x : From J L f s p j l e) → e.kind ≡ x.source.kind
  source_kind j l e x = ap (λ (z : Event). z.kind) x.is

  source_message : (j l : ℕ) (e : Event) (x : From J L f s p j l e) → Message e → Message x.source
  source_message j l e x m = let k = source_kind j l e x in elim m [ inl o ↦ inl (sym k ∙ o) | inr o ↦ inr (sym k ∙ o) ]

  source_number : (j l : ℕ) (e : Event) (x : From J L f s p j l e) → Message e → e.number ≡ x.source.number + s
  source_number j l e x m = ap (λ (z : Event). z.number) x.is ∙ risen_message s x.source (source_message j l e x m)

  pub from_kinds : (j l : ℕ) (e : Event) → From J L f s p j l e → (output ≤ e.kind) × (e.kind ≤ action)
  from_kinds j l e x = let k = source_kind j l e x in let b = sound.kinds x.instance x.index x.source x.there in (let c = b.0 in omega arith, let c = b.1 in omega arith)

  pub from_message_peers : (j l : ℕ) (e : Event) → From J L f s p j l e → Message e → (e.peer < length J) ⊎ (e.peer ≡ environment)
  from_message_peers j l e x m =
      let q = ap (λ (z : Event). z.peer) x.is in
      elim (sound.message_peers x.instance x.index x.source x.there (source_message j l e x m)) [
        | inl b ↦
            let few = sound.few_instances in
            let n = named_instance f x.source.peer (λ y. omega arith) in
            let i = p.inside x.source.peer b in
            inl (omega arith)
        | inr y ↦ inr (q ∙ named_environment f x.source.peer y)
      ]

  pub from_action_peers : (j l : ℕ) (e : Event) → From J L f s p j l e → e.kind ≡ action → e.peer ≡ environment
  from_action_peers j l e x a =
      ap (λ (z : Event). z.peer) x.is ∙ named_environment f x.source.peer (sound.action_peers x.instance x.index x.source x.there (sym (source_kind j l e x) ∙ a))

  -- a message's number lies within the part's share of the numbers
  pub from_low : (j l : ℕ) (e : Event) → From J L f s p j l e → Message e → s ≤ e.number
  from_low j l e x m = let n = source_number j l e x m in omega arith

  pub from_high : (j l : ℕ) (e : Event) → From J L f s p j l e → Message e → e.number < s + span L
  from_high j l e x m =
      let n = source_number j l e x m in
      let b = span_below L x.instance x.index x.source x.there (source_message j l e x m) in
      omega arith

  pub from_numbers : (j l : ℕ) (e : Event) → From J L f s p j l e → s + span L ≤ 4096 → Message e ⊎ (e.kind ≡ action) → e.number ≤ 4095
  from_numbers j l e x b (inl m) = let h = from_high j l e x m in omega arith
  from_numbers j l e x b (inr a) =
      let n = ap (λ (z : Event). z.number) x.is ∙ risen_action s x.source (sym (source_kind j l e x) ∙ a) in
      let h = sound.numbers x.instance x.index x.source x.there in
      omega arith

  -- two places of one event
  same_place : (j l j' l' : ℕ) (e e' : Event) (x : From J L f s p j l e) (y : From J L f s p j' l' e') →
      (x.instance ≡ y.instance) × (x.index ≡ y.index) → (j ≡ j') × (l ≡ l')
  same_place j l j' l' e e' x y q =
      (x.here.0 ∙ ap f q.0 ∙ sym y.here.0, x.here.1 ∙ ap₂ p.place q.0 q.1 ∙ sym y.here.1)

  -- a source by its kind and number
  at_source : (j l a m : ℕ) (e : Event) (x : From J L f s p j l e) → x.source.kind ≡ a → x.source.number ≡ m → At L x.instance x.index (event a x.source.peer m)
  at_source j l a m e x k n = subst (At L x.instance x.index) (λ t. record { kind = k t; peer = x.source.peer; number = n t }) x.there

  same_number : (j l j' l' : ℕ) (e e' : Event) (x : From J L f s p j l e) (y : From J L f s p j' l' e') → Message e → Message e' → e.number ≡ e'.number → y.source.number ≡ x.source.number
  same_number j l j' l' e e' x y m m' n = let a = source_number j l e x m in let b = source_number j' l' e' y m' in omega arith

  -- two outputs, or two inputs, of one message in one part are one
  pub from_one : (j l j' l' : ℕ) (e e' : Event) → From J L f s p j l e → From J L f s p j' l' e' → Message e → e'.kind ≡ e.kind → e.number ≡ e'.number → (j ≡ j') × (l ≡ l')
  from_one j l j' l' e e' x y (inl o) k n =
      let m = x.source.number in
      same_place j l j' l' e e' x y
      (sound.one_output m x.instance x.index x.source.peer y.instance y.index y.source.peer
      (at_source j l output m e x (sym (source_kind j l e x) ∙ o) refl)
      (at_source j' l' output m e' y (sym (source_kind j' l' e' y) ∙ k ∙ o) (same_number j l j' l' e e' x y (inl o) (inl (k ∙ o)) n)))
  from_one j l j' l' e e' x y (inr o) k n =
      let m = x.source.number in
      same_place j l j' l' e e' x y
      (sound.one_input m x.instance x.index x.source.peer y.instance y.index y.source.peer
      (at_source j l input m e x (sym (source_kind j l e x) ∙ o) refl)
      (at_source j' l' input m e' y (sym (source_kind j' l' e' y) ∙ k ∙ o) (same_number j l j' l' e e' x y (inr o) (inr (k ∙ o)) n)))

  -- a peer in J that is an instance comes from an instance of L
  source_peer : (j l : ℕ) (e : Event) (x : From J L f s p j l e) → Message e → e.peer < length J → (x.source.peer < length L) × (e.peer ≡ f x.source.peer)
  source_peer j l e x m b =
      let q = ap (λ (z : Event). z.peer) x.is in
      elim (sound.message_peers x.instance x.index x.source x.there (source_message j l e x m)) [
        | inl c ↦ let few = sound.few_instances in (c, q ∙ named_instance f x.source.peer (λ y. omega arith))
        | inr y ↦ absurd (let z = q ∙ named_environment f x.source.peer y in omega arith)
      ]

  -- the match of an event, where L has the match of its source
  matched : (j l a m i : ℕ) (e : Event) (x : From J L f s p j l e) → (a ≡ output) ⊎ (a ≡ input) → e.peer ≡ f i → e.number ≡ m + s →
      (k : ℕ) × At L i k (event a x.instance m) → (k : ℕ) × At J e.peer k (event a j e.number)
  matched j l a m i e x ak peer number found =
      let d = event a x.instance m in
      let within = at_instance L x.instance x.index x.source x.there in
      let few = sound.few_instances in
      let q : moved f s d ≡ event a j e.number =
      λ t. record { kind = a; peer = (named_instance f x.instance (λ y. omega arith) ∙ sym x.here.0) t; number = (risen_message s d ak ∙ sym number) t } in
      let there = p.forth i found.0 d found.1 in
      (p.place i found.0, subst₂ (λ (z : ℕ) (w : Event). At J z (p.place i found.0) w) (sym peer) q there)

  pub from_matched_output : (j l : ℕ) (e : Event) → From J L f s p j l e → e.kind ≡ output → e.peer < length J → (k : ℕ) × At J e.peer k (event input j e.number)
  from_matched_output j l e x o b =
      let q = source_peer j l e x (inl o) b in
      matched j l input x.source.number x.source.peer e x (inr refl) q.1 (source_number j l e x (inl o))
      (sound.outputs_matched x.source.number x.instance x.index x.source.peer (at_source j l output x.source.number e x (sym (source_kind j l e x) ∙ o) refl) q.0)

  pub from_matched_input : (j l : ℕ) (e : Event) → From J L f s p j l e → e.kind ≡ input → e.peer < length J → (k : ℕ) × At J e.peer k (event output j e.number)
  from_matched_input j l e x o b =
      let q = source_peer j l e x (inr o) b in
      matched j l output x.source.number x.source.peer e x (inl refl) q.1 (source_number j l e x (inr o))
      (sound.inputs_matched x.source.number x.instance x.index x.source.peer (at_source j l input x.source.number e x (sym (source_kind j l e x) ∙ o) refl) q.0)

  -- a message with the environment has one event
  pub from_alone : (j l j' l' : ℕ) (e e' : Event) → From J L f s p j l e → From J L f s p j' l' e' → Message e → Message e' → e.peer ≡ environment → e.number ≡ e'.number → (j ≡ j') × (l ≡ l')
  from_alone j l j' l' e e' x y m m' env n =
      let q = ap (λ (z : Event). z.peer) x.is in
      let home : x.source.peer ≡ environment =
      elim (sound.message_peers x.instance x.index x.source x.there (source_message j l e x m)) [
        | inl b ↦ absurd (
            let few = sound.few_instances in
            let i = p.inside x.source.peer b in
            let z = named_instance f x.source.peer (λ y. omega arith) in
            omega arith)
        | inr w ↦ w
      ] in
      same_place j l j' l' e e' x y
      (sound.environment_alone x.instance x.index y.instance y.index x.source y.source x.there y.there
      (source_message j l e x m) (source_message j' l' e' y m') home (sym (same_number j l j' l' e e' x y m m' n)))

-- the whole of two parts
module _ (J A B : List (List Event)) (f g : ℕ → ℕ) (s : ℕ) (a : Part J A f 0) (b : Part J B g s) (sa : Sound A) (sb : Sound B)
    (narrow : length J ≤ 32) (few : size J ≤ 4096) (apart : span A ≤ s) (low : span A ≤ 4096) (high : s + span B ≤ 4096)
    (back : (j l : ℕ) (e : Event) → At J j l e → From J A f 0 a j l e ⊎ From J B g s b j l e) where
  kinds : (j l : ℕ) (e : Event) → At J j l e → (output ≤ e.kind) × (e.kind ≤ action)
  kinds j l e t = elim (back j l e t) [ inl x ↦ from_kinds J A f 0 a sa narrow j l e x | inr x ↦ from_kinds J B g s b sb narrow j l e x ]

  message_or_action : (e : Event) → (output ≤ e.kind) × (e.kind ≤ action) → Message e ⊎ (e.kind ≡ action)
  message_or_action e k =
      let k0 = k.0 in
      let k1 = k.1 in
      elim (cases_eq e.kind output) [ inl o ↦ inl (inl o) | inr n ↦ elim (cases_eq e.kind input) [ inl i ↦ inl (inr i) | inr m ↦ inr (omega arith) ] ]

  -- two events of one message come from one part
  one_part : (j l j' l' : ℕ) (e e' : Event) → At J j l e → At J j' l' e' → Message e → Message e' → e.number ≡ e'.number →
      (From J A f 0 a j l e × From J A f 0 a j' l' e') ⊎ (From J B g s b j l e × From J B g s b j' l' e')
  one_part j l j' l' e e' t u m m' n =
      elim (back j l e t) [
        | inl x ↦
            elim (back j' l' e' u) [
              | inl y ↦ inl (x, y)
              | inr y ↦ absurd (let h = from_high J A f 0 a sa narrow j l e x m in let c = from_low J B g s b sb narrow j' l' e' y m' in omega arith)
            ]
        | inr x ↦
            elim (back j' l' e' u) [
              | inl y ↦ absurd (let h = from_high J A f 0 a sa narrow j' l' e' y m' in let c = from_low J B g s b sb narrow j l e x m in omega arith)
              | inr y ↦ inr (x, y)
            ]
      ]

  one : (j l j' l' : ℕ) (e e' : Event) → At J j l e → At J j' l' e' → Message e → e'.kind ≡ e.kind → e.number ≡ e'.number → (j ≡ j') × (l ≡ l')
  one j l j' l' e e' t u m k n =
      let m' : Message e' = elim m [ inl o ↦ inl (k ∙ o) | inr o ↦ inr (k ∙ o) ] in
      elim (one_part j l j' l' e e' t u m m' n) [
        | inl p ↦ from_one J A f 0 a sa narrow j l j' l' e e' p.0 p.1 m k n
        | inr p ↦ from_one J B g s b sb narrow j l j' l' e e' p.0 p.1 m k n
      ]

  pub union_sound : Sound J
  union_sound =
      record {
        few_instances = narrow;
        few_events = few;
        kinds = kinds;
        message_peers = λ j l e t m.
            elim (back j l e t) [ inl x ↦ from_message_peers J A f 0 a sa narrow j l e x m | inr x ↦ from_message_peers J B g s b sb narrow j l e x m ];
        action_peers = λ j l e t k.
            elim (back j l e t) [ inl x ↦ from_action_peers J A f 0 a sa narrow j l e x k | inr x ↦ from_action_peers J B g s b sb narrow j l e x k ];
        numbers = λ j l e t.
            let w = message_or_action e (kinds j l e t) in
            elim (back j l e t) [ inl x ↦ from_numbers J A f 0 a sa narrow j l e x (omega arith) w | inr x ↦ from_numbers J B g s b sb narrow j l e x high w ];
        one_output = λ m i k p j l q t u. one i k j l (event output p m) (event output q m) t u (inl refl) refl refl;
        one_input = λ m i k p j l q t u. one i k j l (event input p m) (event input q m) t u (inr refl) refl refl;
        outputs_matched = λ m i k j t lt.
            let e = event output j m in
            elim (back i k e t) [ inl x ↦ from_matched_output J A f 0 a sa narrow i k e x refl lt | inr x ↦ from_matched_output J B g s b sb narrow i k e x refl lt ];
        inputs_matched = λ m j l i t lt.
            let e = event input i m in
            elim (back j l e t) [ inl x ↦ from_matched_input J A f 0 a sa narrow j l e x refl lt | inr x ↦ from_matched_input J B g s b sb narrow j l e x refl lt ];
        environment_alone = λ i k j l e e' t u m m' env n.
            elim (one_part i k j l e e' t u m m' n) [
              | inl p ↦ from_alone J A f 0 a sa narrow i k j l e e' p.0 p.1 m m' env n
              | inr p ↦ from_alone J B g s b sb narrow i k j l e e' p.0 p.1 m m' env n
            ];
      }
