-- A table passes its checks exactly when it is a sound chart.
use Rattle.std.proofs.Common.{◌≡◌, ℕ, ◌<◌, ◌≤◌, ◌⊎◌, List, length, get_or, None, sym, refl, ap, ◌∙◌, subst, inl, inr, arith}
use Rattle.std.proofs.lemmas.Bool.{cases_lt, cases_eq}
use Rattle.charts.specs.declared.parts.Event.{Event}
use Rattle.charts.specs.Events.{event, output, input, action, environment, Message, no_event}
use Rattle.charts.specs.Lists.{At}
use Rattle.charts.specs.Sound.{Sound}
use Rattle.checks.specs.Cut.{cut, instance_of, index_of}
use Rattle.checks.specs.Rules.{first_place, other_kind}
use Rattle.checks.specs.Checked.{checked}
use Rattle.checks.specs.SoundTable.{SoundTable}
use Rattle.checks.proofs.Cuts.{at_flat, flat_at, same_place, cut_length, cut_size}
use Rattle.checks.proofs.Places.{of_yes, of_from, first_is, first_least}
use Rattle.checks.proofs.Passed.{Formed, Joined, Paired, Passed, partner, passed_from, passed_none}

-- what the first place of a kind and number holds
module _ (a m : ℕ) (es : List Event) where
  pub first_kind : first_place a m es < length es → ((get_or es (first_place a m es) no_event).kind ≡ a) × ((get_or es (first_place a m es) no_event).number ≡ m)
  first_kind h = of_from a m (get_or es (first_place a m es) no_event) (first_is a m es h)

  pub first_before : (p : ℕ) → p < length es → (get_or es p no_event).kind ≡ a → (get_or es p no_event).number ≡ m → first_place a m es ≤ p
  first_before p h k n = first_least a m es p h (of_yes a m (get_or es p no_event) k n)

module _ (ns : List ℕ) (es : List Event) where
  -- from the checks to the rules
  module _ (h : Passed ns es) where
    -- two events of one message and kind are one
    one_place : (p q : ℕ) → p < length es → q < length es → Message (get_or es p no_event) → (get_or es q no_event).kind ≡ (get_or es p no_event).kind →
        (get_or es q no_event).number ≡ (get_or es p no_event).number → p ≡ q
    one_place p q lp lq m k n =
        let x = get_or es p no_event in
        let mq : Message (get_or es q no_event) = elim m [ inl o ↦ inl (k ∙ o) | inr o ↦ inr (k ∙ o) ] in
        let sp = h.single p lp m in
        let sq = h.single q lq mq in
        let fp = first_before x.kind x.number es p lp refl refl in
        let fq = first_before x.kind x.number es q lq k n in
        let fr = first_before (get_or es q no_event).kind (get_or es q no_event).number es p lp (sym k) (sym n) in
        omega arith

    one_event : (i k j l : ℕ) (e f : Event) → At (cut ns es) i k e → At (cut ns es) j l f → Message e → f.kind ≡ e.kind → f.number ≡ e.number → (i ≡ j) × (k ≡ l)
    one_event i k j l e f a b m kk nn =
        let x = at_flat ns es i k e a in
        let y = at_flat ns es j l f b in
        let kx = ap (λ (z : Event). z.kind) x.is in
        let ky = ap (λ (z : Event). z.kind) y.is in
        let nx = ap (λ (z : Event). z.number) x.is in
        let ny = ap (λ (z : Event). z.number) y.is in
        let mx : Message (get_or es x.at no_event) = subst Message (sym x.is) m in
        let s = one_place x.at y.at x.within y.within mx (ky ∙ kk ∙ sym kx) (ny ∙ nn ∙ sym nx) in
        (sym x.instance ∙ ap (instance_of ns) s ∙ y.instance, sym x.index ∙ ap (index_of ns) s ∙ y.index)

    -- the other event of a message with an instance
    other_event : (i k : ℕ) (e : Event) → At (cut ns es) i k e → Message e → e.peer < length ns →
        (l : ℕ) × At (cut ns es) e.peer l (event (other_kind e.kind) i e.number)
    other_event i k e a m lt =
        let x = at_flat ns es i k e a in
        let mx : Message (get_or es x.at no_event) = subst Message (sym x.is) m in
        let pair : Paired ns es x.at e = subst (Paired ns es x.at) x.is (h.paired x.at x.within mx) in
        let w = h.wide in
        let j = pair.joined (λ y. omega arith) in
        let q = partner es e in
        let jw = j.within in
        let ev = h.even in
        let c = first_kind (other_kind e.kind) e.number es j.within in
        let at : At (cut ns es) (instance_of ns q) (index_of ns q) (get_or es q no_event) = flat_at ns es q j.within (omega arith) in
        let is : get_or es q no_event ≡ event (other_kind e.kind) i e.number =
        λ t. record { kind = c.0 t; peer = (j.peer ∙ x.instance) t; number = c.1 t } in
        let moved : At (cut ns es) e.peer (index_of ns q) (get_or es q no_event) = subst (λ (z : ℕ). At (cut ns es) z (index_of ns q) (get_or es q no_event)) j.instance at in
        (index_of ns q, subst (At (cut ns es) e.peer (index_of ns q)) is moved)

    -- an event with the environment has no other event of its message
    no_other : (i k j l : ℕ) (e f : Event) → At (cut ns es) i k e → At (cut ns es) j l f → Message e → e.peer ≡ environment → f.kind ≡ other_kind e.kind → f.number ≡ e.number → ⊥
    no_other i k j l e f a b m env kk nn =
        let x = at_flat ns es i k e a in
        let y = at_flat ns es j l f b in
        let mx : Message (get_or es x.at no_event) = subst Message (sym x.is) m in
        let pair : Paired ns es x.at e = subst (Paired ns es x.at) x.is (h.paired x.at x.within mx) in
        let far = pair.alone env in
        let yw = y.within in
        let near = first_before (other_kind e.kind) e.number es y.at y.within (ap (λ (z : Event). z.kind) y.is ∙ kk) (ap (λ (z : Event). z.number) y.is ∙ nn) in
        omega arith

    alone : (i k j l : ℕ) (e f : Event) → At (cut ns es) i k e → At (cut ns es) j l f → Message e → Message f → e.peer ≡ environment → e.number ≡ f.number → (i ≡ j) × (k ≡ l)
    alone i k j l e f a b (inl o) (inl p) env n = one_event i k j l e f a b (inl o) (p ∙ sym o) (sym n)
    alone i k j l e f a b (inr o) (inr p) env n = one_event i k j l e f a b (inr o) (p ∙ sym o) (sym n)
    alone i k j l e f a b (inl o) (inr p) env n = absurd (no_other i k j l e f a b (inl o) env (p ∙ sym (ap other_kind o)) (sym n))
    alone i k j l e f a b (inr o) (inl p) env n = absurd (no_other i k j l e f a b (inr o) env (p ∙ sym (ap other_kind o)) (sym n))

    formed_at : (i k : ℕ) (e : Event) → At (cut ns es) i k e → Formed (length ns) e
    formed_at i k e a = let x = at_flat ns es i k e a in subst (Formed (length ns)) x.is (h.formed x.at x.within)

    peer_known : (e : Event) → Formed (length ns) e → (e.peer < length (cut ns es)) ⊎ (e.peer ≡ environment)
    peer_known e f =
        let w = cut_length ns es in
        elim f.peer [ inl y ↦ inr y | inr p ↦ inl (let l = p.1 in omega arith) ]

    action_env : (e : Event) → Formed (length ns) e → e.kind ≡ action → e.peer ≡ environment
    action_env e f t =
        elim f.peer [ inl y ↦ y | inr p ↦ absurd (elim p.0 [ inl o ↦ omega arith | inr o ↦ omega arith ]) ]

    pub sound_from : Sound (cut ns es)
    sound_from =
        let w = cut_length ns es in
        record {
          few_instances = (let x = h.wide in omega arith);
          few_events = (let x = h.long in let y = cut_size ns es h.even in omega arith);
          kinds = λ i k e a. let f = formed_at i k e a in (f.low, f.high);
          message_peers = λ i k e a m. peer_known e (formed_at i k e a);
          action_peers = λ i k e a t. action_env e (formed_at i k e a) t;
          numbers = λ i k e a. (formed_at i k e a).number;
          one_output = λ m i k p j l q a b. one_event i k j l (event output p m) (event output q m) a b (inl refl) refl refl;
          one_input = λ m i k p j l q a b. one_event i k j l (event input p m) (event input q m) a b (inr refl) refl refl;
          outputs_matched = λ m i k j a lt. other_event i k (event output j m) a (inl refl) (omega arith);
          inputs_matched = λ m j l i a lt. other_event j l (event input i m) a (inr refl) (omega arith);
          environment_alone = alone;
        }

  -- from the rules to the checks
  module _ (s : SoundTable ns es) where
    at_of : (p : ℕ) → p < length es → At (cut ns es) (instance_of ns p) (index_of ns p) (get_or es p no_event)
    at_of p l = let v = s.even in flat_at ns es p l (omega arith)

    one_of : (p q : ℕ) → p < length es → q < length es → (instance_of ns p ≡ instance_of ns q) × (index_of ns p ≡ index_of ns q) → p ≡ q
    one_of p q lp lq e = let v = s.even in same_place ns p q (omega arith) (omega arith) e.0 e.1

    sound_formed : (p : ℕ) → p < length es → Formed (length ns) (get_or es p no_event)
    sound_formed p l =
        let e = get_or es p no_event in
        let a = at_of p l in
        let i = instance_of ns p in
        let k = index_of ns p in
        let t = s.sound.kinds i k e a in
        let t0 = t.0 in
        let t1 = t.1 in
        let w = cut_length ns es in
        let known : Message e → (e.peer ≡ environment) ⊎ (Message e × (e.peer < length ns)) =
        λ m. elim (s.sound.message_peers i k e a m) [ inl y ↦ inr (m, omega arith) | inr y ↦ inl y ] in
        record {
          low = t.0;
          high = t.1;
          peer =
              elim (cases_eq e.kind output) [
                | inl y ↦ known (inl y)
                | inr n ↦ elim (cases_eq e.kind input) [ inl y ↦ known (inr y) | inr o ↦ inl (s.sound.action_peers i k e a (omega arith)) ]
              ];
          number = s.sound.numbers i k e a;
        }

    -- the event at p, by its kind and number
    at_event : (p : ℕ) → p < length es → (a m : ℕ) → (get_or es p no_event).kind ≡ a → (get_or es p no_event).number ≡ m →
        At (cut ns es) (instance_of ns p) (index_of ns p) (event a (get_or es p no_event).peer m)
    at_event p l a m k n =
        subst (At (cut ns es) (instance_of ns p) (index_of ns p)) (λ t. record { kind = k t; peer = (get_or es p no_event).peer; number = n t }) (at_of p l)

    -- events of one kind and number are one
    kind_one : (p q : ℕ) → p < length es → q < length es → Message (get_or es p no_event) → (get_or es q no_event).kind ≡ (get_or es p no_event).kind →
        (get_or es q no_event).number ≡ (get_or es p no_event).number → p ≡ q
    kind_one p q lp lq m k n =
        let x = get_or es p no_event in
        let y = get_or es q no_event in
        one_of p q lp lq
        (elim m [
          | inl o ↦
              s.sound.one_output x.number (instance_of ns p) (index_of ns p) x.peer (instance_of ns q) (index_of ns q) y.peer
              (at_event p lp output x.number o refl) (at_event q lq output x.number (k ∙ o) n)
          | inr o ↦
              s.sound.one_input x.number (instance_of ns p) (index_of ns p) x.peer (instance_of ns q) (index_of ns q) y.peer
              (at_event p lp input x.number o refl) (at_event q lq input x.number (k ∙ o) n)
        ])

    sound_single : (p : ℕ) → p < length es → Message (get_or es p no_event) → p ≤ first_place (get_or es p no_event).kind (get_or es p no_event).number es
    sound_single p l m =
        let x = get_or es p no_event in
        let q = first_place x.kind x.number es in
        elim (cases_lt q p) [
          | inr h ↦ h
          | inl h ↦
              let lq : q < length es = omega arith in
              let c = first_kind x.kind x.number es lq in
              let same = kind_one p q l lq m c.0 c.1 in
              omega arith
        ]

    other_message : (e : Event) → Message e → (f : Event) → f.kind ≡ other_kind e.kind → Message f
    other_message e (inl o) f k = inr (k ∙ ap other_kind o)
    other_message e (inr o) f k = inl (k ∙ ap other_kind o)

    other_differs : (e : Event) → Message e → e.kind ≡ other_kind e.kind → ⊥
    other_differs e (inl o) k = let z = k ∙ ap other_kind o in omega arith
    other_differs e (inr o) k = let z = k ∙ ap other_kind o in omega arith

    -- the match that the rules give
    match_of : (p : ℕ) → p < length es → Message (get_or es p no_event) → (get_or es p no_event).peer < length (cut ns es) →
        (l : ℕ) × At (cut ns es) (get_or es p no_event).peer l (event (other_kind (get_or es p no_event).kind) (instance_of ns p) (get_or es p no_event).number)
    match_of p lp m lt =
        let x = get_or es p no_event in
        let i = instance_of ns p in
        elim m [
          | inl o ↦
              let r = s.sound.outputs_matched x.number i (index_of ns p) x.peer (at_event p lp output x.number o refl) lt in
              (r.0, subst (λ (z : ℕ). At (cut ns es) x.peer r.0 (event z i x.number)) (sym (ap other_kind o)) r.1)
          | inr o ↦
              let r = s.sound.inputs_matched x.number i (index_of ns p) x.peer (at_event p lp input x.number o refl) lt in
              (r.0, subst (λ (z : ℕ). At (cut ns es) x.peer r.0 (event z i x.number)) (sym (ap other_kind o)) r.1)
        ]

    sound_alone : (p : ℕ) → p < length es → Message (get_or es p no_event) → (get_or es p no_event).peer ≡ environment → length es ≤ partner es (get_or es p no_event)
    sound_alone p l m env =
        let x = get_or es p no_event in
        let q = partner es x in
        elim (cases_lt q (length es)) [
          | inr h ↦ h
          | inl h ↦
              let c = first_kind (other_kind x.kind) x.number es h in
              let f = get_or es q no_event in
              let same = one_of p q l h
              (s.sound.environment_alone (instance_of ns p) (index_of ns p) (instance_of ns q) (index_of ns q) x f (at_of p l) (at_of q h) m (other_message x m f c.0) env (sym c.1)) in
              absurd (other_differs x m (ap (λ (z : ℕ). (get_or es z no_event).kind) same ∙ c.0))
        ]

    sound_joined : (p : ℕ) → p < length es → Message (get_or es p no_event) → ((get_or es p no_event).peer ≡ environment → ⊥) →
        Joined ns es (partner es (get_or es p no_event)) (get_or es p no_event).peer (instance_of ns p)
    sound_joined p l m ne =
        let x = get_or es p no_event in
        let lt : x.peer < length (cut ns es) =
        elim (s.sound.message_peers (instance_of ns p) (index_of ns p) x (at_of p l) m) [ inl y ↦ y | inr y ↦ absurd (ne y) ] in
        let r = match_of p l m lt in
        let y = at_flat ns es x.peer r.0 (event (other_kind x.kind) (instance_of ns p) x.number) r.1 in
        let ky = ap (λ (z : Event). z.kind) y.is in
        let ny = ap (λ (z : Event). z.number) y.is in
        let q = partner es x in
        let yw = y.within in
        let near = first_before (other_kind x.kind) x.number es y.at y.within ky ny in
        let lq : q < length es = omega arith in
        let c = first_kind (other_kind x.kind) x.number es lq in
        let same : q ≡ y.at = kind_one q y.at lq y.within (other_message x m (get_or es q no_event) c.0) (ky ∙ sym c.0) (ny ∙ sym c.1) in
        record {
          within = lq;
          instance = ap (instance_of ns) same ∙ y.instance;
          peer = ap (λ (z : ℕ). (get_or es z no_event).peer) same ∙ ap (λ (z : Event). z.peer) y.is;
        }

    pub passed_by : Passed ns es
    passed_by =
        let w = cut_length ns es in
        record {
          wide = (let x = s.sound.few_instances in omega arith);
          long = (let x = s.sound.few_events in let y = cut_size ns es s.even in omega arith);
          even = s.even;
          formed = sound_formed;
          single = sound_single;
          paired = λ p l m. record { alone = sound_alone p l m; joined = sound_joined p l m };
        }

  -- the theorem, both ways
  pub checked_sound : checked ns es ≡ None → SoundTable ns es
  checked_sound n = let p = passed_from ns es n in record { even = p.even; sound = sound_from p }

  pub sound_checked : SoundTable ns es → checked ns es ≡ None
  sound_checked s = passed_none ns es (passed_by s)
