-- The names among a text's items stand in the text.
use Rattle.std.proofs.Common.{◌≡◌, ℕ, ◌≤◌, length, Bool, true, false, cond, List, [], ◌∷◌, ◌++◌, map, filter, fold, not, Some, None, Option, Ok, Err, Result, refl, sym, ap, ◌∙◌, subst, codes, arith}
use Rattle.std.specs.Str.{bytes_eq}
use Rattle.charts.specs.declared.kinds.Kind.{Kind}
use Rattle.charts.specs.declared.kinds.Kind.TheVariants.{Output, Input, Action}
use Rattle.words.specs.declared.faults.Cause.TheVariants.{WrongWord}
use Rattle.words.specs.declared.faults.Fault.{Fault}
use Rattle.words.specs.Sentences.{Placed, Sentence, Ending, sentences}
use Rattle.words.specs.Reading.{StandsIn, others}
use Rattle.sentences.specs.Wants.{Want, exactly, name, peer, among, at_byte, closed, reads, reserved}
use Rattle.sentences.specs.Events.{EventWords, PeerStandsIn, event_by, if_read, event_of_kind, kind_in, event_in}
use Rattle.items.specs.Items.{Item, Items, instance_named, event, instance_ends, refused, with_item, if_closed, if_event, heading, outside_by, inside_by, finished, items_from}
use Rattle.items.specs.Parsing.{title_in}
use Rattle.items.specs.Surveys.{names_in, items_in, items_if}
use Rattle.grammar.specs.Brackets.{events_of}
use Rattle.grammar.proofs.Events.{took, was_closed}
use Rattle.texts.specs.Numbering.{added}
use Rattle.texts.specs.Directories.{of_message, messages_in, actions_in}
use Rattle.texts.proofs.Worded.{Each, each_append, Worded, worded}

-- an action has no peer
abbrev pub Alone : EventWords → Type 0
Alone e = e.kind ≡ Action → e.peer ≡ None

-- an event and its names stand in the text, and an action has no peer
pub record GoodEvent (text : List ℕ) (e : EventWords) : Type 0 where
  pub start : e.start ≤ length text
  pub name : StandsIn text e.name
  pub peer : PeerStandsIn text e.peer
  pub alone : Alone e

-- the same of an item
abbrev pub Good : List ℕ → Item → Type 0
Good text (instance_named n) = StandsIn text n
Good text (event e) = GoodEvent text e
Good text instance_ends = Unit {0}

-- the start and the kind of an event
start_of_words : (at : ℕ) (k : Kind) (us : List Placed) → (event_by at k us).start ≡ at
start_of_words at k [] = refl
start_of_words at k (m ∷ []) = refl
start_of_words at k (m ∷ t ∷ []) = refl
start_of_words at k (m ∷ t ∷ p ∷ us) = refl

kind_of_words : (at : ℕ) (k : Kind) (us : List Placed) → (event_by at k us).kind ≡ k
kind_of_words at k [] = refl
kind_of_words at k (m ∷ []) = refl
kind_of_words at k (m ∷ t ∷ []) = refl
kind_of_words at k (m ∷ t ∷ p ∷ us) = refl

module _ (text : List ℕ) where
  -- its name and its peer
  name_stands : (at : ℕ) (k : Kind) (m : Placed) (us : List Placed) → StandsIn text m → StandsIn text (event_by at k (m ∷ us)).name
  name_stands at k m [] h = h
  name_stands at k m (t ∷ []) h = h
  name_stands at k m (t ∷ p ∷ us) h = h

  peer_stands : (at : ℕ) (k : Kind) (us : List Placed) → Each (StandsIn text) us → PeerStandsIn text (event_by at k us).peer
  peer_stands at k [] h = tt
  peer_stands at k (m ∷ []) h = tt
  peer_stands at k (m ∷ t ∷ []) h = tt
  peer_stands at k (m ∷ t ∷ p ∷ us) h = go (bytes_eq p.bytes (codes "env"))
    where
      go : (b : Bool) → PeerStandsIn text (cond b None (Some p))
      go true = tt
      go false = h.1.1.0

  -- the words that are read are those of the sentence
  reads_stand : (ps : List Want) (ws : List Placed) (e : Ending) (us : List Placed) → Each (StandsIn text) ws → reads ps ws e ≡ Ok us → Each (StandsIn text) us
  reads_stand [] ws e us stand h = subst (Each (StandsIn text)) (sym (was_closed ws e us h).nothing) tt
  reads_stand (p ∷ ps) ws e us stand h =
      let a = took p ps ws e us h in
      let s = subst (Each (StandsIn text)) a.is stand in
      subst (Each (StandsIn text)) (sym a.all) (s.0, reads_stand ps a.rest e a.after s.1 a.read)

  good_words : (at : ℕ) (k : Kind) (ps : List Want) (ws : List Placed) (e : Ending) (x : EventWords) → at ≤ length text → Each (StandsIn text) ws → if_read at k (reads (name ∷ ps) ws e) ≡ Ok x →
      ((us : List Placed) → reads (name ∷ ps) ws e ≡ Ok us → Alone (event_by at k us)) → Good text (event x)
  good_words at k ps ws e x start stand h alone = go (reads (name ∷ ps) ws e) refl h
    where
      go : (r : Result (List Placed) Fault) → reads (name ∷ ps) ws e ≡ r → if_read at k r ≡ Ok x → Good text (event x)
      go (Err f) read h = cc
      go (Ok us) read h =
          let a = took name ps ws e us read in
          let is : event_by at k us ≡ x = cc in
          let stands = reads_stand (name ∷ ps) ws e us stand read in
          let first : StandsIn text a.first = (subst (Each (StandsIn text)) a.all stands).0 in
          subst (GoodEvent text) is
          (record {
            start = subst (λ (n : ℕ). n ≤ length text) (sym (start_of_words at k us)) start;
            name = subst (λ (vs : List Placed). StandsIn text (event_by at k vs).name) (sym a.all) (name_stands at k a.first a.after first);
            peer = peer_stands at k us stands;
            alone = alone us read;
          })

  good_event : (v : Placed) (ws : List Placed) (e : Ending) (x : EventWords) → Each (StandsIn text) (v ∷ ws) → event_in v (record { words = ws; ending = e }) ≡ Ok x → Good text (event x)
  good_event v ws e x stand h = go (kind_in v.bytes) h
    where
      at : v.start ≤ length text
      at = let l = stand.0.within in omega arith

      go : (o : Option Kind) → event_of_kind o v (record { words = ws; ending = e }) ≡ Ok x → Good text (event x)
      go None h = cc
      go (Some Output) h = good_words v.start Output (exactly (codes "to") ∷ peer ∷ []) ws e x at stand.1 h (λ us read is. let k = sym (kind_of_words v.start Output us) ∙ is in cc)
      go (Some Input) h = good_words v.start Input (exactly (codes "from") ∷ peer ∷ []) ws e x at stand.1 h (λ us read is. let k = sym (kind_of_words v.start Input us) ∙ is in cc)
      go (Some Action) h =
          good_words v.start Action [] ws e x at stand.1 h
          (λ us read is.
          let a = took name [] ws e us read in
          let d = was_closed a.rest e a.after a.read in
          ap (λ (vs : List Placed). (event_by v.start Action vs).peer) (a.all ∙ ap (λ (vs : List Placed). a.first ∷ vs) d.nothing))

  -- all items are good
  abbrev pub AllGood : List Item → Type 0
  AllGood is = Each (Good text) is

  after_closed : (r : Result (List Placed) Fault) (is : Items) → AllGood is.items → AllGood (if_closed r is).items
  after_closed (Ok ws) is h = h
  after_closed (Err f) is h = tt

  either : (b : Bool) (x y : Items) → AllGood x.items → AllGood y.items → AllGood (cond b x y).items
  either true x y hx hy = hx
  either false x y hx hy = hy

  after_event : (r : Result EventWords Fault) (is : Items) → ((x : EventWords) → r ≡ Ok x → Good text (event x)) → AllGood is.items → AllGood (if_event r is).items
  after_event (Ok x) is g h = (g x refl, h)
  after_event (Err f) is g h = tt

  after_heading : (ws : List Placed) (e : Ending) (inside : Items) → Each (StandsIn text) ws → AllGood inside.items → AllGood (heading ws e inside).items
  after_heading [] e inside stand h = tt
  after_heading (n ∷ ws) e inside stand h =
      either (reserved n.bytes) (refused (at_byte WrongWord n.start)) (with_item (instance_named n) (if_closed (closed ws e) inside)) tt (stand.0, after_closed (closed ws e) inside h)

  after_inside : (ws : List Placed) (e : Ending) (inside outside : Items) → Each (StandsIn text) ws → AllGood inside.items → AllGood outside.items → AllGood (inside_by ws e inside outside).items
  after_inside [] e inside outside stand h k = tt
  after_inside (v ∷ ws) e inside outside stand h k =
      either (bytes_eq v.bytes (codes "endinstance")) (if_closed (closed ws e) (with_item instance_ends outside)) (if_event (event_in v (record { words = ws; ending = e })) inside)
      (after_closed (closed ws e) (with_item instance_ends outside) (tt, k))
      (after_event (event_in v (record { words = ws; ending = e })) inside (λ x is. good_event v ws e x stand is) h)

  after_outside : (ws : List Placed) (e : Ending) (inside end : Items) → Each (StandsIn text) ws → AllGood inside.items → AllGood end.items → AllGood (outside_by ws e inside end).items
  after_outside [] e inside end stand h k = tt
  after_outside (v ∷ ws) e inside end stand h k =
      either (bytes_eq v.bytes (codes "instance")) (heading ws e inside) (cond (bytes_eq v.bytes (codes "endmsc")) (if_closed (closed ws e) end) (refused (at_byte WrongWord v.start)))
      (after_heading ws e inside stand.1 h)
      (either (bytes_eq v.bytes (codes "endmsc")) (if_closed (closed ws e) end) (refused (at_byte WrongWord v.start)) (after_closed (closed ws e) end k) tt)

  pub good_from : (inside : Bool) (ss : List Sentence) → Worded text ss → AllGood (items_from inside ss).items
  good_from inside [] h = tt
  good_from true (s ∷ ss) h = after_inside s.words s.ending (items_from true ss) (items_from false ss) h.0.0 (good_from true ss h.1) (good_from false ss h.1)
  good_from false (s ∷ ss) h = after_outside s.words s.ending (items_from true ss) (finished ss) h.0.0 (good_from true ss h.1) tt

  pub other_sentences : (ss : List Sentence) → Worded text ss → Worded text (others ss)
  other_sentences [] h = tt
  other_sentences (s ∷ ss) h = h.1

  -- the items of the text are good
  pub good_items : AllGood (items_in (sentences text))
  good_items = go (title_in (sentences text))
    where
      go : (r : Result Placed Fault) → AllGood (items_if r (items_from false (others (sentences text))))
      go (Ok t) = good_from false (others (sentences text)) (other_sentences (sentences text) (worded text))
      go (Err f) = tt

  -- the names of instances, of messages and of actions among good items
  pub names_stand : (is : List Item) → AllGood is → Each (StandsIn text) (names_in is)
  names_stand [] h = tt
  names_stand (instance_named n ∷ is) h = (h.0, names_stand is h.1)
  names_stand (event e ∷ is) h = names_stand is h.1
  names_stand (instance_ends ∷ is) h = names_stand is h.1

  pub events_good : (is : List Item) → AllGood is → Each (GoodEvent text) (events_of is)
  events_good [] h = tt
  events_good (instance_named n ∷ is) h = events_good is h.1
  events_good (event e ∷ is) h = (h.0, events_good is h.1)
  events_good (instance_ends ∷ is) h = events_good is h.1

  pub events_alone : (es : List EventWords) → Each (GoodEvent text) es → Each Alone es
  events_alone [] h = tt
  events_alone (e ∷ es) h = (h.0.alone, events_alone es h.1)

  filtered_stand : (p : EventWords → Bool) (es : List EventWords) → Each (GoodEvent text) es → Each (StandsIn text) (map (λ e. e.name) (filter p es))
  filtered_stand p [] h = tt
  filtered_stand p (e ∷ es) h = go (p e) (filtered_stand p es h.1)
    where
      go : (b : Bool) → Each (StandsIn text) (map (λ (x : EventWords). x.name) (filter p es)) → Each (StandsIn text) (map (λ (x : EventWords). x.name) (cond b (e ∷ filter p es) (filter p es)))
      go true all = (h.0.name, all)
      go false all = all

  pub messages_stand : (is : List Item) → AllGood is → Each (StandsIn text) (messages_in (events_of is))
  messages_stand is h = filtered_stand (λ e. of_message e.kind) (events_of is) (events_good is h)

  pub actions_stand : (is : List Item) → AllGood is → Each (StandsIn text) (actions_in (events_of is))
  actions_stand is h = filtered_stand (λ e. not (of_message e.kind)) (events_of is) (events_good is h)

  -- and of these each once
  pub added_stand : (s ns : List Placed) → Each (StandsIn text) s → Each (StandsIn text) ns → Each (StandsIn text) (fold added s ns)
  added_stand s [] a b = a
  added_stand s (n ∷ ns) a b = added_stand (added s n) ns (go (among s n.bytes)) b.1
    where
      go : (x : Bool) → Each (StandsIn text) (cond x s (s ++ (n ∷ [])))
      go true = a
      go false = each_append (StandsIn text) s (n ∷ []) a (b.0, tt)
