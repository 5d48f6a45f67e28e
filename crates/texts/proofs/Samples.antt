-- Small charts that keep the rules, and charts that break one.
use Rattle.std.proofs.Common.{◌≡◌, ℕ, zero, suc, ◌<◌, List, [], ◌∷◌, get_or, slice_get, Contains, Some, None, Option, option_map, option_and_then, Ok, Err, Result, inl, inr, refl, sym, ap, ◌∙◌, subst, codes, arith}
use Rattle.std.specs.Option.{unwrap_or}
use Rattle.std.proofs.lemmas.Option.{slice_get-map, slice_get_within, get_or_from_slice_get}
use Rattle.charts.specs.declared.parts.Event.{Event}
use Rattle.charts.specs.Events.{event, output, input, action, environment}
use Rattle.charts.specs.Lists.{At}
use Rattle.checks.proofs.Joined.{checked_joined}
use Rattle.words.specs.Sentences.{sentences}
use Rattle.grammar.specs.Texts.{outputs, inputs, acts, InstanceText, ChartText}
use Rattle.grammar.specs.Plain.{plain_text}
use Rattle.grammar.proofs.Plainly.{plain_writes}
use Rattle.words.specs.declared.faults.Fault.{Fault}
use Rattle.texts.specs.declared.reading.Reading.{Reading}
use Rattle.texts.specs.Readings.{Rooms, Tables, Reads}
use Rattle.texts.specs.Names.{instance_names, message_names, action_names}
use Rattle.texts.specs.Charted.{lists_of}
use Rattle.texts.specs.Static.{named_peer, Static}
use Rattle.texts.specs.Takes.{TooShortFor}
use Rattle.texts.proofs.Taking.{takes}

-- b takes k from a and sends m back; x and m are names of messages and of actions
abbrev pub two_instances : ChartText
two_instances =
    record {
      title = codes "c";
      instances =
          record { name = codes "b"; events = inputs (codes "k") (Some (codes "a")) ∷ acts (codes "x") ∷ outputs (codes "m") (Some (codes "a")) ∷ [] }
          ∷ record { name = codes "a"; events = outputs (codes "k") (Some (codes "b")) ∷ inputs (codes "m") (Some (codes "b")) ∷ outputs (codes "x") None ∷ acts (codes "m") ∷ acts (codes "x") ∷ [] }
          ∷ [];
    }

-- numbers by first appearance
messages_of_two : message_names two_instances ≡ codes "k" ∷ codes "m" ∷ codes "x" ∷ []
messages_of_two = refl

actions_of_two : action_names two_instances ≡ codes "x" ∷ codes "m" ∷ []
actions_of_two = refl

lists_of_two :
    lists_of two_instances
    ≡ (event input 1 0 ∷ event action environment 0 ∷ event output 1 1 ∷ [])
    ∷ (event output 0 0 ∷ event input 0 1 ∷ event output environment 2 ∷ event action environment 1 ∷ event action environment 0 ∷ [])
    ∷ []
lists_of_two = refl

-- it keeps the rules
abbrev peer_at : ℕ → ℕ → Option (List ℕ)
peer_at i k = option_and_then (λ (n : InstanceText). option_and_then named_peer (slice_get n.events k)) (slice_get two_instances.instances i)

peer_known : (i k : ℕ) (p : List ℕ) → peer_at i k ≡ Some p → Contains (instance_names two_instances) p
peer_known zero zero p is = subst (Contains (instance_names two_instances)) (ap (λ (o : Option (List ℕ)). unwrap_or o []) is) (1, omega arith, refl)
peer_known zero (suc zero) p is = cc
peer_known zero (suc (suc zero)) p is = subst (Contains (instance_names two_instances)) (ap (λ (o : Option (List ℕ)). unwrap_or o []) is) (1, omega arith, refl)
peer_known zero (suc (suc (suc k))) p is = cc
peer_known (suc zero) zero p is = subst (Contains (instance_names two_instances)) (ap (λ (o : Option (List ℕ)). unwrap_or o []) is) (0, omega arith, refl)
peer_known (suc zero) (suc zero) p is = subst (Contains (instance_names two_instances)) (ap (λ (o : Option (List ℕ)). unwrap_or o []) is) (0, omega arith, refl)
peer_known (suc zero) (suc (suc zero)) p is = cc
peer_known (suc zero) (suc (suc (suc zero))) p is = cc
peer_known (suc zero) (suc (suc (suc (suc zero)))) p is = cc
peer_known (suc zero) (suc (suc (suc (suc (suc k))))) p is = cc
peer_known (suc (suc i)) k p is = cc

name_differs : (i j : ℕ) → i < 2 → j < 2 → get_or (instance_names two_instances) i [] ≡ get_or (instance_names two_instances) j [] → i ≡ j
name_differs zero zero a b is = refl
name_differs zero (suc zero) a b is = let c = ap (λ (w : List ℕ). get_or w 0 0) is in omega arith
name_differs (suc zero) zero a b is = let c = ap (λ (w : List ℕ). get_or w 0 0) is in omega arith
name_differs (suc zero) (suc zero) a b is = refl
name_differs (suc (suc i)) j a b is = omega arith
name_differs i (suc (suc j)) a b is = omega arith

name_at : (i : ℕ) (m : InstanceText) → slice_get two_instances.instances i ≡ Some m → get_or (instance_names two_instances) i [] ≡ m.name
name_at i m at =
    get_or_from_slice_get (instance_names two_instances) i m.name []
    (slice_get-map (λ (n : InstanceText). n.name) two_instances.instances i ∙ ap (option_map (λ (n : InstanceText). n.name)) at)

pub two_keep : Static two_instances
two_keep =
    record {
      names_differ = λ i j m n at there same.
          name_differs i j (slice_get_within two_instances.instances i m at) (slice_get_within two_instances.instances j n there) (name_at i m at ∙ same ∙ sym (name_at j n there));
      peers_known = λ i k n e p at here peer.
          peer_known i k p
          (ap (option_and_then (λ (x : InstanceText). option_and_then named_peer (slice_get x.events k))) at ∙ ap (option_and_then named_peer) here ∙ peer);
      sound = checked_joined (lists_of two_instances) refl;
    }

-- so its plain text is taken where the tables have room for two instances, eight events, two instances' names, three messages' and two actions'
abbrev rooms : Rooms
rooms = record { lengths = 2; events = 8; instances = 2; messages = 3; actions = 2 }

has_room : TooShortFor rooms two_instances → ⊥
has_room t =
    elim t [
      | inl x ↦ omega arith
      | inr y ↦ elim y [ inl x ↦ omega arith | inr z ↦ elim z [ inl x ↦ omega arith | inr u ↦ elim u [ inl x ↦ omega arith | inr x ↦ omega arith ] ] ]
    ]

pub two_taken : (result : Result Reading Fault) (t : Tables) → Reads (sentences (plain_text two_instances)) rooms result t → (a : Reading) × (result ≡ Ok a)
two_taken (Ok a) t h = (a, refl)
two_taken (Err f) t h = absurd (has_room (takes (plain_text two_instances) rooms (Err f) t h two_instances (plain_writes two_instances refl refl) two_keep).1)

-- two instances of one name
no_twice : Static (record { title = codes "c"; instances = record { name = codes "a"; events = [] } ∷ record { name = codes "a"; events = [] } ∷ [] }) → ⊥
no_twice s = let e = s.names_differ 0 1 _ _ refl refl refl in omega arith

-- a peer that is no instance
no_peer : Static (record { title = codes "c"; instances = record { name = codes "a"; events = inputs (codes "m") (Some (codes "b")) ∷ [] } ∷ [] }) → ⊥
no_peer s = let k = s.peers_known 0 0 _ _ (codes "b") refl refl refl in go k.0 k.1 k.2
  where
    go : (k : ℕ) → k < 1 → ◌≡◌ {A = List ℕ} (get_or (codes "a" ∷ []) k (codes "b")) (codes "b") → ⊥
    go zero l is = let b = ap (λ (w : List ℕ). get_or w 0 0) is in omega arith
    go (suc k) l is = omega arith

-- an output without its input
no_input : Static (record { title = codes "c"; instances = record { name = codes "a"; events = outputs (codes "m") (Some (codes "a")) ∷ [] } ∷ [] }) → ⊥
no_input s = let m = s.sound.outputs_matched 0 0 0 0 (record { within = omega arith; is = refl }) (omega arith) in go m.0 m.1
  where
    go : (l : ℕ) → At ((event output 0 0 ∷ []) ∷ []) 0 l (event input 0 0) → ⊥
    go zero a = let k = ap (λ (e : Event). e.kind) a.is in omega arith
    go (suc l) a = let w = a.within in omega arith
