-- Peers that are named as instances are.
use Rattle.std.proofs.Common.{◌≡◌, ℕ, zero, suc, Bool, true, false, cond, List, [], ◌∷◌, ◌++◌, map, slice_get, Contains, Some, None, Option, option_map, refl, sym, ap, ◌∙◌, subst}
use Rattle.std.proofs.lemmas.Option.{slice_get-map}
use Rattle.charts.specs.declared.kinds.Kind.{Kind}
use Rattle.charts.specs.declared.kinds.Kind.TheVariants.{Output, Input, Action}
use Rattle.checks.proofs.Chosen.{or_else_none, none_or_else}
use Rattle.words.specs.Sentences.{Placed}
use Rattle.sentences.specs.Wants.{among}
use Rattle.sentences.specs.Events.{EventWords}
use Rattle.items.specs.Instances.{InstanceWords}
use Rattle.grammar.specs.Texts.{EventText, InstanceText}
use Rattle.grammar.specs.Charts.{event_by_kind, event_by, instance_by}
use Rattle.grammar.proofs.Lists.{bytes_of}
use Rattle.texts.specs.Drafts.{unknown_in, first_unknown}
use Rattle.texts.specs.Readings.{all_events}
use Rattle.texts.specs.Static.{named_peer}
use Rattle.texts.proofs.Worded.{Each, each_append}
use Rattle.texts.proofs.Itemed.{Alone}
use Rattle.texts.proofs.Once.{among_there, there_among}

-- what holds of each holds at each place, and the other way round
module _ {X : Type 0} (P : X → Type 0) where
  each_get : (xs : List X) (k : ℕ) (x : X) → Each P xs → slice_get xs k ≡ Some x → P x
  each_get [] k x h at = cc
  each_get (y ∷ xs) zero x h at = let is : y ≡ x = cc in subst P is h.0
  each_get (y ∷ xs) (suc k) x h at = each_get xs k x h.1 at

  get_each : (xs : List X) → ((k : ℕ) (x : X) → slice_get xs k ≡ Some x → P x) → Each P xs
  get_each [] h = tt
  get_each (y ∷ xs) h = (h zero y refl, get_each xs (λ k x at. h (suc k) x at))

each_left : {X : Type 0} (P : X → Type 0) (xs ys : List X) → Each P (xs ++ ys) → Each P xs
each_left P [] ys h = tt
each_left P (x ∷ xs) ys h = (h.0, each_left P xs ys h.1)

each_right : {X : Type 0} (P : X → Type 0) (xs ys : List X) → Each P (xs ++ ys) → Each P ys
each_right P [] ys h = h
each_right P (x ∷ xs) ys h = each_right P xs ys h.1

-- the same of the events of instances
module _ (P : EventWords → Type 0) where
  event_get : (ns : List InstanceWords) (i k : ℕ) (n : InstanceWords) (x : EventWords) → Each P (all_events ns) → slice_get ns i ≡ Some n → slice_get n.events k ≡ Some x → P x
  event_get [] i k n x h at here = cc
  event_get (m ∷ ns) zero k n x h at here = let is : m ≡ n = cc in each_get P n.events k x (subst (λ (y : InstanceWords). Each P y.events) is (each_left P m.events (all_events ns) h)) here
  event_get (m ∷ ns) (suc i) k n x h at here = event_get ns i k n x (each_right P m.events (all_events ns) h) at here

  get_event : (ns : List InstanceWords) → ((i k : ℕ) (n : InstanceWords) (x : EventWords) → slice_get ns i ≡ Some n → slice_get n.events k ≡ Some x → P x) → Each P (all_events ns)
  get_event [] h = tt
  get_event (m ∷ ns) h =
      each_append P m.events (all_events ns) (get_each P m.events (λ k x here. h zero k m x refl here)) (get_event ns (λ i k n x at here. h (suc i) k n x at here))

-- an element of a list that was mapped
pub got : {X Y : Type 0} (f : X → Y) (xs : List X) (k : ℕ) (y : Y) → slice_get (map f xs) k ≡ Some y → (x : X) × (slice_get xs k ≡ Some x) × (f x ≡ y)
got f [] k y at = cc
got f (x ∷ xs) zero y at = let is : f x ≡ y = cc in (x, refl, is)
got f (x ∷ xs) (suc k) y at = got f xs k y at

-- the peer that an event names
peer_got : (e : EventWords) (p : List ℕ) → named_peer (event_by e) ≡ Some p → (w : Placed) × (e.peer ≡ Some w) × (w.bytes ≡ p)
peer_got e p h = go e.kind e.peer refl h
  where
    go : (k : Kind) (o : Option Placed) → e.peer ≡ o → named_peer (event_by_kind k e.name.bytes (option_map (λ w. w.bytes) o)) ≡ Some p → (w : Placed) × (e.peer ≡ Some w) × (w.bytes ≡ p)
    go Output None is h = cc
    go Output (Some w) is h = (w, is, let same : w.bytes ≡ p = cc in same)
    go Input None is h = cc
    go Input (Some w) is h = (w, is, let same : w.bytes ≡ p = cc in same)
    go Action o is h = cc

peer_gives : (e : EventWords) (w : Placed) → Alone e → e.peer ≡ Some w → named_peer (event_by e) ≡ Some w.bytes
peer_gives e w alone is = go e.kind refl
  where
    go : (k : Kind) → e.kind ≡ k → named_peer (event_by_kind k e.name.bytes (option_map (λ w. w.bytes) e.peer)) ≡ Some w.bytes
    go Output kind = ap (option_map (λ (v : Placed). v.bytes)) is
    go Input kind = ap (option_map (λ (v : Placed). v.bytes)) is
    go Action kind = let none = sym (alone kind) ∙ is in cc

-- a peer that is known is one of the names
pub known_among : (ns : List Placed) (w : Placed) → unknown_in ns (Some w) ≡ None → among ns w.bytes ≡ true
known_among ns w h = go (among ns w.bytes) refl h
  where
    go : (b : Bool) → among ns w.bytes ≡ b → cond b None (Some w) ≡ None → among ns w.bytes ≡ true
    go true is h = is
    go false is h = cc

pub each_known : (ns : List Placed) (es : List EventWords) → first_unknown ns es ≡ None → Each (λ e. unknown_in ns e.peer ≡ None) es
each_known ns [] h = tt
each_known ns (e ∷ es) h = let o = or_else_none (unknown_in ns e.peer) (first_unknown ns es) h in (o.0, each_known ns es o.1)

known_each : (ns : List Placed) (es : List EventWords) → Each (λ e. unknown_in ns e.peer ≡ None) es → first_unknown ns es ≡ None
known_each ns [] h = refl
known_each ns (e ∷ es) h = none_or_else (unknown_in ns e.peer) (first_unknown ns es) h.0 ∙ known_each ns es h.1

module _ (names : List (List ℕ)) (ns : List Placed) (is : names ≡ bytes_of ns) (insts : List InstanceWords) where
  -- each peer that an event names is one of the names
  abbrev pub PeersKnown : Type 0
  PeersKnown = (i k : ℕ) (n : InstanceText) (e : EventText) (p : List ℕ) → slice_get (map instance_by insts) i ≡ Some n → slice_get n.events k ≡ Some e → named_peer e ≡ Some p → Contains names p

  pub peers_known : first_unknown ns (all_events insts) ≡ None → PeersKnown
  peers_known known i k n e p at here names_it =
      let a = got instance_by insts i n at in
      let b = got event_by a.0.events k e (ap (λ (m : InstanceText). slice_get m.events k) a.2 ∙ here) in
      let w = peer_got b.0 p (ap named_peer b.2 ∙ names_it) in
      let fine = event_get (λ e. unknown_in ns e.peer ≡ None) insts i k a.0 b.0 (each_known ns (all_events insts) known) a.1 b.1 in
      subst (λ (ms : List (List ℕ)). Contains ms p) (sym is) (among_there ns p (sym (ap (among ns) w.2) ∙ known_among ns w.0 (sym (ap (unknown_in ns) w.1) ∙ fine)))

  pub known_peers : Each Alone (all_events insts) → PeersKnown → first_unknown ns (all_events insts) ≡ None
  known_peers alone known =
      known_each ns (all_events insts)
      (get_event (λ e. unknown_in ns e.peer ≡ None) insts (λ i k n x at here. fine i k n x at here (event_get Alone insts i k n x alone at here) x.peer refl))
    where
      fine : (i k : ℕ) (n : InstanceWords) (x : EventWords) → slice_get insts i ≡ Some n → slice_get n.events k ≡ Some x → Alone x → (o : Option Placed) → x.peer ≡ o → unknown_in ns o ≡ None
      fine i k n x at here only None peer = refl
      fine i k n x at here only (Some w) peer =
          let c =
          known i k (instance_by n) (event_by x) w.bytes (slice_get-map instance_by insts i ∙ ap (option_map instance_by) at) (slice_get-map event_by n.events k ∙ ap (option_map event_by) here)
          (peer_gives x w only peer) in
          ap (λ (b : Bool). cond b None (Some w)) (there_among ns w.bytes (subst (λ (ms : List (List ℕ)). Contains ms w.bytes) is c))
