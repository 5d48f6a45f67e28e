-- An event that was read has these words.
use Rattle.std.proofs.Common.{◌≡◌, ℕ, Bool, true, false, not, cond, ◌&&◌, inl, inr, List, [], ◌∷◌, Some, None, Option, option_map, Ok, Err, Result, refl, sym, ap, ap₂, ◌∙◌, subst, codes}
use Rattle.std.specs.Str.{bytes_eq}
use Rattle.std.specs.List.{list_all}
use Rattle.std.proofs.lemmas.Bool.{cases_Bool, and_from, cond-true, cond-false}
use Rattle.std.proofs.lemmas.Slice.Eq.{bytes_eq-Decides}
use Rattle.charts.specs.declared.kinds.Kind.{Kind}
use Rattle.charts.specs.declared.kinds.Kind.TheVariants.{Output, Input, Action}
use Rattle.words.specs.declared.faults.Cause.{Cause}
use Rattle.words.specs.declared.faults.Cause.TheVariants.{WrongWord}
use Rattle.words.specs.declared.faults.Fault.{Fault}
use Rattle.words.specs.Sentences.{Placed, Ending, semicolon as ends_at, text_end, fault}
use Rattle.sentences.specs.Wants.{Want, exactly, name, peer, fault_of, if_wanted, closed, reads, reserved}
use Rattle.sentences.specs.Events.{EventWords, peer_by, event_by as event_with, if_read, message_in, kind_in, event_of_kind, event_in}
use Rattle.grammar.specs.Pieces.{peer_word, event_sentence}
use Rattle.grammar.specs.Writing.{is_name, names_of_peer, names_of_event}
use Rattle.grammar.specs.Charts.{event_by_kind, event_by}
use Rattle.grammar.proofs.Lists.{bytes_of}
use Rattle.grammar.proofs.Saying.{Sentenced}

-- the first word that was wanted, and the words after it
pub record Took (p : Want) (ps : List Want) (ws : List Placed) (e : Ending) (us : List Placed) : Type 0 where
  pub first : Placed
  pub rest : List Placed
  pub is : ws ≡ first ∷ rest
  pub fits : fault_of p first.bytes ≡ None
  pub after : List Placed
  pub all : us ≡ first ∷ after
  pub read : reads ps rest e ≡ Ok after

pub took : (p : Want) (ps : List Want) (ws : List Placed) (e : Ending) (us : List Placed) → reads (p ∷ ps) ws e ≡ Ok us → Took p ps ws e us
took p ps [] e us h = cc
took p ps (w ∷ ws) e us h = go (fault_of p w.bytes) refl (reads ps ws e) refl h
  where
    go : (o : Option Cause) → fault_of p w.bytes ≡ o → (r : Result (List Placed) Fault) → reads ps ws e ≡ r → if_wanted o w r ≡ Ok us → Took p ps (w ∷ ws) e us
    go None fits (Ok vs) read h = record { first = w; rest = ws; is = refl; fits = fits; after = vs; all = cc; read = read }
    go None fits (Err f) read h = cc
    go (Some c) fits r read h = cc

-- no word was left
pub record Closed (ws : List Placed) (e : Ending) (us : List Placed) : Type 0 where
  pub none : ws ≡ []
  pub nothing : us ≡ []
  pub at : ℕ
  pub ending : e ≡ ends_at at

pub was_closed : (ws : List Placed) (e : Ending) (us : List Placed) → closed ws e ≡ Ok us → Closed ws e us
was_closed [] (ends_at n) us h = record { none = refl; nothing = cc; at = n; ending = refl }
was_closed [] (text_end n) us h = cc
was_closed [] (fault c n) us h = cc
was_closed (w ∷ ws) e us h = cc

pub same_bytes : (v w : List ℕ) → bytes_eq v w ≡ true → v ≡ w
same_bytes v w = (bytes_eq-Decides v w).0

none_left : (b : Bool) (c : Cause) → cond b None (Some c) ≡ None → b ≡ true
none_left true c h = refl
none_left false c h = cc

none_right : (b : Bool) (c : Cause) → cond b (Some c) None ≡ None → b ≡ false
none_right true c h = cc
none_right false c h = refl

-- what a word that is wanted is
pub exactly_is : (v w : List ℕ) → fault_of (exactly v) w ≡ None → w ≡ v
exactly_is v w h = same_bytes w v (none_left (bytes_eq w v) WrongWord h)

pub name_is : (w : List ℕ) → fault_of name w ≡ None → is_name w ≡ true
name_is w h = ap not (none_right (reserved w) WrongWord h)

-- the peer as a chart has it
abbrev pub peer_text : Placed → Option (List ℕ)
peer_text p = option_map (λ w. w.bytes) (peer_by p)

pub record PeerIs (p : Placed) : Type 0 where
  pub word : peer_word (peer_text p) ≡ p.bytes
  pub named : list_all is_name (names_of_peer (peer_text p)) ≡ true

pub peer_is : (p : Placed) → fault_of peer p.bytes ≡ None → PeerIs p
peer_is p h =
    elim (cases_Bool (bytes_eq p.bytes (codes "env"))) [
      | inl env ↦
          let by : peer_text p ≡ None = ap (option_map (λ (w : Placed). w.bytes)) (cond-true {A = Option Placed} (bytes_eq p.bytes (codes "env")) None (Some p) env) in
          record { word = ap peer_word by ∙ sym (same_bytes p.bytes (codes "env") env); named = ap (λ (o : Option (List ℕ)). list_all is_name (names_of_peer o)) by }
      | inr other ↦
          let by : peer_text p ≡ Some p.bytes = ap (option_map (λ (w : Placed). w.bytes)) (cond-false {A = Option Placed} (bytes_eq p.bytes (codes "env")) None (Some p) other) in
          let is = name_is p.bytes (sym (cond-false {A = Option Cause} (bytes_eq p.bytes (codes "env")) _ _ other) ∙ h) in
          record { word = ap peer_word by; named = ap (λ (o : Option (List ℕ)). list_all is_name (names_of_peer o)) by ∙ ap (λ (b : Bool). b && true) is }
    ]

-- the words of a message after its first
pub record MessageIs (v : Placed) (k : Kind) (preposition : List ℕ) (ws : List Placed) (e : Ending) (x : EventWords) : Type 0 where
  pub message : Placed
  pub peer : Placed
  pub one : Sentenced ws e (message.bytes ∷ preposition ∷ peer.bytes ∷ [])
  pub is : x ≡ record { start = v.start; kind = k; name = message; peer = peer_by peer }
  pub named : is_name message.bytes ≡ true
  pub peer_is : PeerIs peer

message_is : (v : Placed) (k : Kind) (preposition : List ℕ) (ws : List Placed) (e : Ending) (x : EventWords) → message_in v k preposition (record { words = ws; ending = e }) ≡ Ok x →
    MessageIs v k preposition ws e x
message_is v k preposition ws e x h = go (reads (name ∷ exactly preposition ∷ peer ∷ []) ws e) refl h
  where
    go : (r : Result (List Placed) Fault) → reads (name ∷ exactly preposition ∷ peer ∷ []) ws e ≡ r → if_read v.start k r ≡ Ok x → MessageIs v k preposition ws e x
    go (Ok us) read h =
        let a = took name (exactly preposition ∷ peer ∷ []) ws e us read in
        let b = took (exactly preposition) (peer ∷ []) a.rest e a.after a.read in
        let c = took peer [] b.rest e b.after b.read in
        let d = was_closed c.rest e c.after c.read in
        let words : ws ≡ a.first ∷ b.first ∷ c.first ∷ [] = cc in
        let all : us ≡ a.first ∷ b.first ∷ c.first ∷ [] = cc in
        let is : Ok x ≡ if_read v.start k (Ok us) = sym h in
        record {
          message = a.first;
          peer = c.first;
          one =
              record {
                words = ap bytes_of words ∙ ap (λ (u : List ℕ). a.first.bytes ∷ u ∷ c.first.bytes ∷ []) (exactly_is preposition b.first.bytes b.fits);
                at = d.at;
                ending = d.ending;
              };
          is = (let y : x ≡ event_with v.start k us = cc in y) ∙ ap (event_with v.start k) all;
          named = name_is a.first.bytes a.fits;
          peer_is = peer_is c.first c.fits;
        }
    go (Err f) read h = cc

-- an event has these words and names
pub record EventIs (ws : List Placed) (e : Ending) (x : EventWords) : Type 0 where
  pub one : Sentenced ws e (event_sentence (event_by x))
  pub named : list_all is_name (names_of_event (event_by x)) ≡ true

-- the word of a kind
abbrev pub kind_word : Kind → List ℕ
kind_word Output = codes "out"
kind_word Input = codes "in"
kind_word Action = codes "action"

kind_is : (w : List ℕ) (k : Kind) → kind_in w ≡ Some k → w ≡ kind_word k
kind_is w k h = go (bytes_eq w (codes "in")) refl (bytes_eq w (codes "out")) refl (bytes_eq w (codes "action")) refl k h
  where
    go : (a : Bool) → bytes_eq w (codes "in") ≡ a → (b : Bool) → bytes_eq w (codes "out") ≡ b → (c : Bool) → bytes_eq w (codes "action") ≡ c → (k : Kind) →
        cond a (Some Input) (cond b (Some Output) (cond c (Some Action) None)) ≡ Some k → w ≡ kind_word k
    go true is b x c y Input h = same_bytes w (codes "in") is
    go true is b x c y Output h = cc
    go true is b x c y Action h = cc
    go false z true is c y Output h = same_bytes w (codes "out") is
    go false z true is c y Input h = cc
    go false z true is c y Action h = cc
    go false z false x true is Action h = same_bytes w (codes "action") is
    go false z false x true is Input h = cc
    go false z false x true is Output h = cc
    go false z false x false y k h = cc

message_event : (v : Placed) (k : Kind) (preposition : List ℕ) (ws : List Placed) (e : Ending) (x : EventWords) → v.bytes ≡ kind_word k → MessageIs v k preposition ws e x →
    ((m : List ℕ) (p : Option (List ℕ)) → (event_sentence (event_by_kind k m p) ≡ kind_word k ∷ m ∷ preposition ∷ peer_word p ∷ []) × (names_of_event (event_by_kind k m p) ≡ m ∷ names_of_peer p)) →
    EventIs (v ∷ ws) e x
message_event v k preposition ws e x first h by =
    let b = by h.message.bytes (peer_text h.peer) in
    subst (EventIs (v ∷ ws) e) (sym h.is)
    (record {
      one =
          record {
            words =
                ap₂ (λ (u : List ℕ) (us : List (List ℕ)). u ∷ us) first h.one.words
                ∙ ap (λ (u : List ℕ). kind_word k ∷ h.message.bytes ∷ preposition ∷ u ∷ []) (sym h.peer_is.word) ∙ sym b.0;
            at = h.one.at;
            ending = h.one.ending;
          };
      named = ap (list_all is_name) b.1 ∙ and_from (is_name h.message.bytes) (list_all is_name (names_of_peer (peer_text h.peer))) h.named h.peer_is.named;
    })

action_event : (v : Placed) (ws : List Placed) (e : Ending) (x : EventWords) → v.bytes ≡ codes "action" → if_read v.start Action (reads (name ∷ []) ws e) ≡ Ok x → EventIs (v ∷ ws) e x
action_event v ws e x first h = go (reads (name ∷ []) ws e) refl h
  where
    go : (r : Result (List Placed) Fault) → reads (name ∷ []) ws e ≡ r → if_read v.start Action r ≡ Ok x → EventIs (v ∷ ws) e x
    go (Ok us) read h =
        let a = took name [] ws e us read in
        let d = was_closed a.rest e a.after a.read in
        let words : ws ≡ a.first ∷ [] = cc in
        let all : us ≡ a.first ∷ [] = cc in
        let by : event_with v.start Action us ≡ x = cc in
        subst (EventIs (v ∷ ws) e) (sym (ap (event_with v.start Action) all) ∙ by)
        (record {
          one = record { words = ap₂ (λ (u : List ℕ) (us : List (List ℕ)). u ∷ us) first (ap bytes_of words); at = d.at; ending = d.ending };
          named = and_from (is_name a.first.bytes) true (name_is a.first.bytes a.fits) refl;
        })
    go (Err f) read h = cc

event_of_kind_is : (v : Placed) (ws : List Placed) (e : Ending) (x : EventWords) (o : Option Kind) → kind_in v.bytes ≡ o → event_of_kind o v (record { words = ws; ending = e }) ≡ Ok x →
    EventIs (v ∷ ws) e x
event_of_kind_is v ws e x (Some Output) k h = message_event v Output (codes "to") ws e x (kind_is v.bytes Output k) (message_is v Output (codes "to") ws e x h) (λ m p. (refl, refl))
event_of_kind_is v ws e x (Some Input) k h = message_event v Input (codes "from") ws e x (kind_is v.bytes Input k) (message_is v Input (codes "from") ws e x h) (λ m p. (refl, refl))
event_of_kind_is v ws e x (Some Action) k h = action_event v ws e x (kind_is v.bytes Action k) h
event_of_kind_is v ws e x None k h = cc

pub event_is : (v : Placed) (ws : List Placed) (e : Ending) (x : EventWords) → event_in v (record { words = ws; ending = e }) ≡ Ok x → EventIs (v ∷ ws) e x
event_is v ws e x h = event_of_kind_is v ws e x (kind_in v.bytes) refl h
