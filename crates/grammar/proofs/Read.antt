-- Sentences of a chart are read as that chart.
use Rattle.std.proofs.Common.{◌≡◌, ℕ, true, false, List, [], ◌∷◌, ◌++◌, map, flat_map, Some, None, Option, option_map, Ok, Result, refl, sym, ap, ap₂, ◌∙◌, subst, codes, append_assoc}
use Rattle.std.specs.Str.{bytes_eq}
use Rattle.std.specs.List.{list_all}
use Rattle.std.proofs.lemmas.Bool.{and_parts, not-true, or_parts, cond-true, cond-false}
use Rattle.std.proofs.lemmas.List.Folds.{list_all-append}
use Rattle.std.proofs.lemmas.Slice.Eq.{bytes_eq-Decides}
use Rattle.charts.specs.declared.kinds.Kind.{Kind}
use Rattle.charts.specs.declared.kinds.Kind.TheVariants.{Output, Input, Action}
use Rattle.words.specs.declared.faults.Cause.{Cause}
use Rattle.words.specs.declared.faults.Cause.TheVariants.{WrongWord}
use Rattle.words.specs.declared.faults.Fault.{Fault}
use Rattle.words.specs.Sentences.{Placed, Sentence, Ending}
use Rattle.words.specs.Reading.{others}
use Rattle.sentences.specs.Wants.{Want, exactly, name, peer, fault_of, if_wanted, and_then, closed, reads, reserved, structure_word, event_word}
use Rattle.sentences.specs.Events.{EventWords, peer_by, if_read, event_of_kind, kind_in, event_in}
use Rattle.items.specs.Items.{Items, instance_named, event, instance_ends, with_item, if_closed, if_event, outside_by, inside_by, finished, items_from}
use Rattle.items.specs.Instances.{events_before, instances_in}
use Rattle.items.specs.Parsing.{second, title_in}
use Rattle.grammar.specs.Texts.{EventText, outputs, inputs, acts, InstanceText, ChartText}
use Rattle.grammar.specs.Pieces.{peer_word, event_sentence, instance_sentences, chart_sentences}
use Rattle.grammar.specs.Writing.{is_name, names_of_peer, names_of_event, names_of_instance, names_of_chart}
use Rattle.grammar.specs.Charts.{event_by_kind, event_by, instance_by, chart_by}
use Rattle.grammar.proofs.Lists.{bytes_of}
use Rattle.grammar.proofs.Saying.{Sentenced, Says}
use Rattle.grammar.proofs.Events.{peer_text, kind_word}

-- the first word of words with these bytes, and the others
record Head (ws : List Placed) (u : List ℕ) (us : List (List ℕ)) : Type 0 where
  pub first : Placed
  pub rest : List Placed
  pub is : ws ≡ first ∷ rest
  pub bytes : first.bytes ≡ u
  pub others : bytes_of rest ≡ us

head : (ws : List Placed) (u : List ℕ) (us : List (List ℕ)) → bytes_of ws ≡ u ∷ us → Head ws u us
head [] u us h = cc
head (w ∷ ws) u us h = record { first = w; rest = ws; is = refl; bytes = cc; others = cc }

no_more : (ws : List Placed) → bytes_of ws ≡ [] → ws ≡ []
no_more [] h = refl
no_more (w ∷ ws) h = cc

-- a word that fits is taken
take_word : (p : Want) (ps : List Want) (w : Placed) (ws : List Placed) (e : Ending) (us : List Placed) → fault_of p w.bytes ≡ None → reads ps ws e ≡ Ok us → reads (p ∷ ps) (w ∷ ws) e ≡ Ok (w ∷ us)
take_word p ps w ws e us fits read = ap (λ (o : Option Cause). if_wanted o w (reads ps ws e)) fits ∙ ap (and_then w) read

exactly_fits : (v w : List ℕ) → w ≡ v → fault_of (exactly v) w ≡ None
exactly_fits v w is = cond-true {A = Option Cause} (bytes_eq w v) None (Some WrongWord) ((bytes_eq-Decides w v).1 is)

name_fits : (w : List ℕ) → is_name w ≡ true → fault_of name w ≡ None
name_fits w is = cond-false {A = Option Cause} (reserved w) (Some WrongWord) None (not-true (reserved w) is)

-- a name is not `env`
not_env : (w : List ℕ) → reserved w ≡ false → bytes_eq w (codes "env") ≡ false
not_env w h =
    let a = or_parts (structure_word w) (event_word w) h in
    let b = or_parts (bytes_eq w (codes "in")) _ a.1 in
    let c = or_parts (bytes_eq w (codes "from")) _ b.1 in
    let d = or_parts (bytes_eq w (codes "out")) _ c.1 in
    let e = or_parts (bytes_eq w (codes "to")) _ d.1 in
    (or_parts (bytes_eq w (codes "action")) _ e.1).1

-- the word of a peer is read as the peer
record PeerFits (w : Placed) (p : Option (List ℕ)) : Type 0 where
  pub fits : fault_of peer w.bytes ≡ None
  pub is : peer_text w ≡ p

peer_fits : (w : Placed) (p : Option (List ℕ)) → w.bytes ≡ peer_word p → list_all is_name (names_of_peer p) ≡ true → PeerFits w p
peer_fits w None is named =
    let env = (bytes_eq-Decides w.bytes (codes "env")).1 is in
    record {
      fits = cond-true {A = Option Cause} (bytes_eq w.bytes (codes "env")) None _ env;
      is = ap (option_map (λ (x : Placed). x.bytes)) (cond-true {A = Option Placed} (bytes_eq w.bytes (codes "env")) None (Some w) env);
    }
peer_fits w (Some q) is named =
    let allowed : is_name w.bytes ≡ true = ap is_name is ∙ (and_parts (is_name q) true named).0 in
    let other = not_env w.bytes (not-true (reserved w.bytes) allowed) in
    record {
      fits = cond-false {A = Option Cause} (bytes_eq w.bytes (codes "env")) None _ other ∙ name_fits w.bytes allowed;
      is = ap (option_map (λ (x : Placed). x.bytes)) (cond-false {A = Option Placed} (bytes_eq w.bytes (codes "env")) None (Some w) other) ∙ ap (λ (b : List ℕ). Some b) is;
    }

message_words : (preposition : List ℕ) (m t p : Placed) (e : Ending) → fault_of name m.bytes ≡ None → fault_of (exactly preposition) t.bytes ≡ None → fault_of peer p.bytes ≡ None → closed [] e ≡ Ok [] →
    reads (name ∷ exactly preposition ∷ peer ∷ []) (m ∷ t ∷ p ∷ []) e ≡ Ok (m ∷ t ∷ p ∷ [])
message_words preposition m t p e a b c ends =
    take_word name (exactly preposition ∷ peer ∷ []) m (t ∷ p ∷ []) e (t ∷ p ∷ []) a
    (take_word (exactly preposition) (peer ∷ []) t (p ∷ []) e (p ∷ []) b (take_word peer [] p [] e [] c ends))

-- a sentence is read as an event
record EventRead (ws : List Placed) (e : Ending) (inside outside : Items) (x : EventText) : Type 0 where
  pub words : EventWords
  pub is : event_by words ≡ x
  pub read : inside_by ws e inside outside ≡ with_item (event words) inside

module _ (inside outside : Items) where
  -- its first word is that of an event
  begins : (v : Placed) (ws : List Placed) (e : Ending) (k : Kind) (y : EventWords) → v.bytes ≡ kind_word k → bytes_eq (kind_word k) (codes "endinstance") ≡ false → kind_in (kind_word k) ≡ Some k →
      event_of_kind (Some k) v (record { words = ws; ending = e }) ≡ Ok y → inside_by (v ∷ ws) e inside outside ≡ with_item (event y) inside
  begins v ws e k y first other kind read =
      cond-false {A = Items} (bytes_eq v.bytes (codes "endinstance")) (if_closed (closed ws e) (with_item instance_ends outside)) (if_event (event_in v (record { words = ws; ending = e })) inside)
      (ap (λ (u : List ℕ). bytes_eq u (codes "endinstance")) first ∙ other)
      ∙ ap (λ (r : Result EventWords Fault). if_event r inside)
      (ap (λ (u : List ℕ). event_of_kind (kind_in u) v (record { words = ws; ending = e })) first ∙ ap (λ (o : Option Kind). event_of_kind o v (record { words = ws; ending = e })) kind ∙ read)

  module _ (k : Kind) (preposition m : List ℕ) (p : Option (List ℕ)) (e : Ending) (named : is_name m ≡ true) (peer_named : list_all is_name (names_of_peer p) ≡ true) (ends : closed [] e ≡ Ok [])
      (other : bytes_eq (kind_word k) (codes "endinstance") ≡ false) (kind : kind_in (kind_word k) ≡ Some k)
      (by : (v : Placed) (us : List Placed) → event_of_kind (Some k) v (record { words = us; ending = e }) ≡ if_read v.start k (reads (name ∷ exactly preposition ∷ peer ∷ []) us e)) where
    message_by : (v n t q : Placed) → v.bytes ≡ kind_word k → n.bytes ≡ m → t.bytes ≡ preposition → q.bytes ≡ peer_word p → EventRead (v ∷ n ∷ t ∷ q ∷ []) e inside outside (event_by_kind k m p)
    message_by v n t q a b c d =
        let f = peer_fits q p d peer_named in
        let y : EventWords = record { start = v.start; kind = k; name = n; peer = peer_by q } in
        let read = message_words preposition n t q e (name_fits n.bytes (ap is_name b ∙ named)) (exactly_fits preposition t.bytes c) f.fits ends in
        record {
          words = y;
          is = ap₂ (event_by_kind k) b f.is;
          read = begins v (n ∷ t ∷ q ∷ []) e k y a other kind (by v (n ∷ t ∷ q ∷ []) ∙ ap (if_read v.start k) read);
        }

    message_read : (ws : List Placed) → bytes_of ws ≡ kind_word k ∷ m ∷ preposition ∷ peer_word p ∷ [] → EventRead ws e inside outside (event_by_kind k m p)
    message_read ws words =
        let a = head ws (kind_word k) (m ∷ preposition ∷ peer_word p ∷ []) words in
        let b = head a.rest m (preposition ∷ peer_word p ∷ []) a.others in
        let c = head b.rest preposition (peer_word p ∷ []) b.others in
        let d = head c.rest (peer_word p) [] c.others in
        let none = no_more d.rest d.others in
        let is : ws ≡ a.first ∷ b.first ∷ c.first ∷ d.first ∷ [] = cc in
        subst (λ (us : List Placed). EventRead us e inside outside (event_by_kind k m p)) (sym is) (message_by a.first b.first c.first d.first a.bytes b.bytes c.bytes d.bytes)

  action_read : (n : List ℕ) (ws : List Placed) (e : Ending) → Sentenced ws e (codes "action" ∷ n ∷ []) → is_name n ≡ true → EventRead ws e inside outside (acts n)
  action_read n ws e one named =
      let a = head ws (codes "action") (n ∷ []) one.words in
      let b = head a.rest n [] a.others in
      let none = no_more b.rest b.others in
      let is : ws ≡ a.first ∷ b.first ∷ [] = cc in
      let y : EventWords = record { start = a.first.start; kind = Action; name = b.first; peer = None } in
      let read : reads (name ∷ []) (b.first ∷ []) e ≡ Ok (b.first ∷ []) = take_word name [] b.first [] e [] (name_fits b.first.bytes (ap is_name b.bytes ∙ named)) (ap (closed []) one.ending) in
      record {
        words = y;
        is = ap acts b.bytes;
        read = ap (λ (us : List Placed). inside_by us e inside outside) is ∙ begins a.first (b.first ∷ []) e Action y a.bytes refl refl (ap (if_read a.first.start Action) read);
      }

  event_read : (x : EventText) (ws : List Placed) (e : Ending) → Sentenced ws e (event_sentence x) → list_all is_name (names_of_event x) ≡ true → EventRead ws e inside outside x
  event_read (outputs m p) ws e one named =
      let n = and_parts (is_name m) (list_all is_name (names_of_peer p)) named in
      message_read Output (codes "to") m p e n.0 n.1 (ap (closed []) one.ending) refl refl (λ v us. refl) ws one.words
  event_read (inputs m p) ws e one named =
      let n = and_parts (is_name m) (list_all is_name (names_of_peer p)) named in
      message_read Input (codes "from") m p e n.0 n.1 (ap (closed []) one.ending) refl refl (λ v us. refl) ws one.words
  event_read (acts n) ws e one named = action_read n ws e one (and_parts (is_name n) true named).0

-- a heading is read as an instance's name
record HeadingRead (ws : List Placed) (e : Ending) (inside end : Items) (n : List ℕ) : Type 0 where
  pub name : Placed
  pub is : name.bytes ≡ n
  pub read : outside_by ws e inside end ≡ with_item (instance_named name) inside

heading_read : (inside end : Items) (n : List ℕ) (ws : List Placed) (e : Ending) → Sentenced ws e (codes "instance" ∷ n ∷ []) → is_name n ≡ true → HeadingRead ws e inside end n
heading_read inside end n ws e one named =
    let a = head ws (codes "instance") (n ∷ []) one.words in
    let b = head a.rest n [] a.others in
    let none = no_more b.rest b.others in
    let is : ws ≡ a.first ∷ b.first ∷ [] = cc in
    subst (λ (us : List Placed). HeadingRead us e inside end n) (sym is) (by a.first b.first a.bytes b.bytes)
  where
    by : (v x : Placed) → v.bytes ≡ codes "instance" → x.bytes ≡ n → HeadingRead (v ∷ x ∷ []) e inside end n
    by v x a b =
        record {
          name = x;
          is = b;
          read =
              ap (λ (u : List ℕ). outside_by (record { start = v.start; bytes = u } ∷ x ∷ []) e inside end) a
              ∙ cond-false {A = Items} (reserved x.bytes) _ _ (not-true (reserved x.bytes) (ap is_name b ∙ named))
              ∙ ap (λ (f : Ending). with_item (instance_named x) (if_closed (closed [] f) inside)) one.ending;
        }

-- the end of an instance, and the end of the text
one_word : (ws : List Placed) (u : List ℕ) (f : List Placed → Items) (is : Items) → bytes_of ws ≡ u ∷ [] → ((at : ℕ) → f (record { start = at; bytes = u } ∷ []) ≡ is) → f ws ≡ is
one_word ws u f is words h =
    let a = head ws u [] words in
    let none = no_more a.rest a.others in
    let all : ws ≡ a.first ∷ [] = cc in
    ap f all ∙ ap (λ (b : List ℕ). f (record { start = a.first.start; bytes = b } ∷ [])) a.bytes ∙ h a.first.start

end_read : (ws : List Placed) (e : Ending) (inside outside : Items) → Sentenced ws e (codes "endinstance" ∷ []) → inside_by ws e inside outside ≡ with_item instance_ends outside
end_read ws e inside outside one =
    one_word ws (codes "endinstance") (λ us. inside_by us e inside outside) (with_item instance_ends outside) one.words
    (λ at. ap (λ (f : Ending). if_closed (closed [] f) (with_item instance_ends outside)) one.ending)

last_read : (ws : List Placed) (e : Ending) (inside end : Items) → Sentenced ws e (codes "endmsc" ∷ []) → outside_by ws e inside end ≡ end
last_read ws e inside end one = one_word ws (codes "endmsc") (λ us. outside_by us e inside end) end one.words (λ at. ap (λ (f : Ending). if_closed (closed [] f) end) one.ending)

-- the sentences of events and of the end of their instance are read as these events
record EventsRead (es : List EventText) (vss : List (List (List ℕ))) (ss : List Sentence) : Type 0 where
  pub rest : List Sentence
  pub says : Says rest vss
  pub outcome : (items_from true ss).outcome ≡ (items_from false rest).outcome
  pub events : map event_by (events_before (items_from true ss).items) ≡ es
  pub instances : instances_in (items_from true ss).items ≡ instances_in (items_from false rest).items

events_read : (es : List EventText) (vss : List (List (List ℕ))) → list_all is_name (flat_map names_of_event es) ≡ true → (ss : List Sentence) →
    Says ss (map event_sentence es ++ ((codes "endinstance" ∷ []) ∷ vss)) → EventsRead es vss ss
events_read [] vss named [] h = absurd h
events_read [] vss named (s ∷ ss) h =
    let r = end_read s.words s.ending (items_from true ss) (items_from false ss) h.0 in
    record {
      rest = ss;
      says = h.1;
      outcome = ap (λ (i : Items). i.outcome) r;
      events = ap (λ (i : Items). map event_by (events_before i.items)) r;
      instances = ap (λ (i : Items). instances_in i.items) r;
    }
events_read (x ∷ es) vss named [] h = absurd h
events_read (x ∷ es) vss named (s ∷ ss) h =
    let n = and_parts (list_all is_name (names_of_event x)) (list_all is_name (flat_map names_of_event es)) (sym (list_all-append is_name (names_of_event x) (flat_map names_of_event es)) ∙ named) in
    let r = event_read (items_from true ss) (items_from false ss) x s.words s.ending h.0 n.0 in
    let m = events_read es vss n.1 ss h.1 in
    record {
      rest = m.rest;
      says = m.says;
      outcome = ap (λ (i : Items). i.outcome) r.read ∙ m.outcome;
      events = ap (λ (i : Items). map event_by (events_before i.items)) r.read ∙ ap₂ (λ (y : EventText) (ys : List EventText). y ∷ ys) r.is m.events;
      instances = ap (λ (i : Items). instances_in i.items) r.read ∙ m.instances;
    }

-- the sentences after a heading
regroup : (x : InstanceText) (is : List InstanceText) →
    (map event_sentence x.events ++ ((codes "endinstance" ∷ []) ∷ [])) ++ flat_map instance_sentences is ++ ((codes "endmsc" ∷ []) ∷ []) ≡
    map event_sentence x.events ++ ((codes "endinstance" ∷ []) ∷ (flat_map instance_sentences is ++ ((codes "endmsc" ∷ []) ∷ [])))
regroup x is =
    append_assoc (map event_sentence x.events ++ ((codes "endinstance" ∷ []) ∷ [])) (flat_map instance_sentences is) ((codes "endmsc" ∷ []) ∷ [])
    ∙ append_assoc (map event_sentence x.events) ((codes "endinstance" ∷ []) ∷ []) (flat_map instance_sentences is ++ ((codes "endmsc" ∷ []) ∷ []))

-- the sentences of instances and of the end are read as these instances
record InstancesRead (is : List InstanceText) (ss : List Sentence) : Type 0 where
  pub outcome : (items_from false ss).outcome ≡ Ok tt
  pub instances : map instance_by (instances_in (items_from false ss).items) ≡ is

instances_read : (is : List InstanceText) → list_all is_name (flat_map names_of_instance is) ≡ true → (ss : List Sentence) → Says ss (flat_map instance_sentences is ++ ((codes "endmsc" ∷ []) ∷ [])) →
    InstancesRead is ss
instances_read [] named [] h = absurd h
instances_read [] named (s ∷ ss) h =
    let r = last_read s.words s.ending (items_from true ss) (finished ss) h.0 in
    record { outcome = ap (λ (i : Items). i.outcome) r ∙ h.1; instances = ap (λ (i : Items). map instance_by (instances_in i.items)) r }
instances_read (x ∷ is) named [] h = absurd h
instances_read (x ∷ is) named (s ∷ ss) h =
    let n = and_parts (list_all is_name (names_of_instance x)) (list_all is_name (flat_map names_of_instance is)) (sym (list_all-append is_name (names_of_instance x) (flat_map names_of_instance is)) ∙ named) in
    let q = and_parts (is_name x.name) (list_all is_name (flat_map names_of_event x.events)) n.0 in
    let r = heading_read (items_from true ss) (finished ss) x.name s.words s.ending h.0 q.0 in
    let more : List (List (List ℕ)) = flat_map instance_sentences is ++ ((codes "endmsc" ∷ []) ∷ []) in
    let es = events_read x.events more q.1 ss (subst (Says ss) (regroup x is) h.1) in
    let m = instances_read is n.1 es.rest es.says in
    record {
      outcome = ap (λ (i : Items). i.outcome) r.read ∙ es.outcome ∙ m.outcome;
      instances =
          ap (λ (i : Items). map instance_by (instances_in i.items)) r.read
          ∙ ap₂ (λ (y : InstanceText) (ys : List InstanceText). y ∷ ys) (ap₂ (λ (b : List ℕ) (ys : List EventText). record { name = b; events = ys }) r.is es.events)
          (ap (map instance_by) es.instances ∙ m.instances);
    }

-- a heading is read as the chart's title
record TitleRead (ws : List Placed) (e : Ending) (n : List ℕ) : Type 0 where
  pub title : Placed
  pub is : title.bytes ≡ n
  pub read : second (reads (exactly (codes "msc") ∷ name ∷ []) ws e) ≡ Ok title

title_read : (n : List ℕ) (ws : List Placed) (e : Ending) → Sentenced ws e (codes "msc" ∷ n ∷ []) → is_name n ≡ true → TitleRead ws e n
title_read n ws e one named =
    let a = head ws (codes "msc") (n ∷ []) one.words in
    let b = head a.rest n [] a.others in
    let none = no_more b.rest b.others in
    let is : ws ≡ a.first ∷ b.first ∷ [] = cc in
    subst (λ (us : List Placed). TitleRead us e n) (sym is) (by a.first b.first a.bytes b.bytes)
  where
    by : (v x : Placed) → v.bytes ≡ codes "msc" → x.bytes ≡ n → TitleRead (v ∷ x ∷ []) e n
    by v x a b =
        record {
          title = x;
          is = b;
          read =
              ap second
              (take_word (exactly (codes "msc")) (name ∷ []) v (x ∷ []) e (x ∷ []) (exactly_fits (codes "msc") v.bytes a)
              (take_word name [] x [] e [] (name_fits x.bytes (ap is_name b ∙ named)) (ap (closed []) one.ending)));
        }

-- the sentences of a chart are read as that chart
pub record ChartRead (ss : List Sentence) (c : ChartText) : Type 0 where
  pub title : Placed
  pub titled : title_in ss ≡ Ok title
  pub outcome : (items_from false (others ss)).outcome ≡ Ok tt
  pub chart : c ≡ chart_by title (items_from false (others ss)).items

pub chart_read : (c : ChartText) → list_all is_name (names_of_chart c) ≡ true → (ss : List Sentence) → Says ss (chart_sentences c) → ChartRead ss c
chart_read c named [] h = absurd h
chart_read c named (s ∷ ss) h =
    let n = and_parts (is_name c.title) (list_all is_name (flat_map names_of_instance c.instances)) named in
    let t = title_read c.title s.words s.ending h.0 n.0 in
    let i = instances_read c.instances n.1 ss h.1 in
    record { title = t.title; titled = t.read; outcome = i.outcome; chart = sym (ap₂ (λ (b : List ℕ) (is : List InstanceText). record { title = b; instances = is }) t.is i.instances) }
