-- The chart of a text, in its items.
use Rattle.std.proofs.Common.{◌≡◌, ℕ, true, false, cond, not, List, [], ◌∷◌, ◌++◌, length, map, filter, flat_map, Some, None, Option, option_map, refl, sym, ap, ap₂, ◌∙◌}
use Rattle.std.proofs.lemmas.List.{length-map, map-append}
use Rattle.std.proofs.lemmas.Simd.{map-map}
use Rattle.std.proofs.lemmas.List.Concat.{length-flat_map}
use Rattle.charts.specs.declared.parts.Event.{Event}
use Rattle.charts.specs.declared.kinds.Kind.{Kind}
use Rattle.charts.specs.declared.kinds.Kind.TheVariants.{Output, Input, Action}
use Rattle.charts.specs.Events.{event as event_with, output, input, action}
use Rattle.charts.specs.Kinds.{code_of}
use Rattle.charts.specs.Lists.{size}
use Rattle.checks.specs.Cut.{in_one}
use Rattle.words.specs.Sentences.{Placed}
use Rattle.sentences.specs.Events.{EventWords}
use Rattle.items.specs.Items.{Item}
use Rattle.items.specs.Instances.{InstanceWords, instances_in}
use Rattle.items.specs.Surveys.{names_in, first_repeated}
use Rattle.grammar.specs.Texts.{EventText, InstanceText, ChartText}
use Rattle.grammar.specs.Brackets.{bracketed, events_of}
use Rattle.grammar.specs.Charts.{event_by_kind, event_by, instance_by, chart_by}
use Rattle.grammar.proofs.Bracketing.{bracketed_events, instance_names as named_instances}
use Rattle.grammar.proofs.Lists.{bytes_of}
use Rattle.texts.specs.Numbering.{place_of}
use Rattle.texts.specs.Directories.{Named, of_message, messages_in, actions_in, named_in}
use Rattle.texts.specs.Drafts.{peer_of, names_for, numbered}
use Rattle.texts.specs.Readings.{all_events, lengths_in, rows_in}
use Rattle.texts.specs.Names.{once, place_in, message_of, action_of, events_in, instance_names, message_names, action_names}
use Rattle.texts.specs.Charted.{peer_number, event_in, lists_of}
use Rattle.texts.proofs.Bracketed.{instances_once}
use Rattle.texts.proofs.Worded.{Each}
use Rattle.texts.proofs.Itemed.{Alone, GoodEvent}
use Rattle.texts.proofs.Once.{place_same, once_same}

-- the events of the instances
pub events_said : (ns : List InstanceWords) → flat_map (λ (i : InstanceText). i.events) (map instance_by ns) ≡ map event_by (all_events ns)
events_said [] = refl
events_said (n ∷ ns) = ap (λ (es : List EventText). map event_by n.events ++ es) (events_said ns) ∙ sym (map-append event_by n.events (all_events ns))

-- the names of messages and of actions
messages_said : (es : List EventWords) → flat_map message_of (map event_by es) ≡ bytes_of (messages_in es)
messages_said [] = refl
messages_said (e ∷ es) = ap (λ (ns : List (List ℕ)). message_of (event_by e) ++ ns) (messages_said es) ∙ go e.kind
  where
    go : (k : Kind) → message_of (event_by_kind k e.name.bytes (option_map (λ w. w.bytes) e.peer)) ++ bytes_of (messages_in es)
        ≡ bytes_of (map (λ (x : EventWords). x.name) (cond (of_message k) (e ∷ filter (λ x. of_message x.kind) es) (filter (λ x. of_message x.kind) es)))
    go Output = refl
    go Input = refl
    go Action = refl

actions_said : (es : List EventWords) → flat_map action_of (map event_by es) ≡ bytes_of (actions_in es)
actions_said [] = refl
actions_said (e ∷ es) = ap (λ (ns : List (List ℕ)). action_of (event_by e) ++ ns) (actions_said es) ∙ go e.kind
  where
    go : (k : Kind) → action_of (event_by_kind k e.name.bytes (option_map (λ w. w.bytes) e.peer)) ++ bytes_of (actions_in es)
        ≡ bytes_of (map (λ (x : EventWords). x.name) (cond (not (of_message k)) (e ∷ filter (λ x. not (of_message x.kind)) es) (filter (λ x. not (of_message x.kind)) es)))
    go Output = refl
    go Input = refl
    go Action = refl

-- lists of lists
in_one_map : {X : Type 0} (f : EventText → X) (ns : List InstanceText) → flat_map (λ (xs : List X). xs) (map (λ (i : InstanceText). map f i.events) ns) ≡ map f (flat_map (λ (i : InstanceText). i.events) ns)
in_one_map f [] = refl
in_one_map {X = X} f (n ∷ ns) = ap (λ (xs : List X). map f n.events ++ xs) (in_one_map f ns) ∙ sym (map-append f n.events (flat_map (λ (i : InstanceText). i.events) ns))

lengths_map : (f : EventText → Event) (ns : List InstanceWords) → map (λ (n : InstanceWords). length n.events) ns ≡ map length (map (λ (i : InstanceText). map f i.events) (map instance_by ns))
lengths_map f [] = refl
lengths_map f (n ∷ ns) = ap₂ (λ (k : ℕ) (ks : List ℕ). k ∷ ks) (sym (length-map (map event_by n.events) f ∙ length-map n.events event_by)) (lengths_map f ns)

peer_same : (ns : List Placed) (p : Option Placed) → peer_number (bytes_of ns) (option_map (λ w. w.bytes) p) ≡ peer_of ns p
peer_same ns None = refl
peer_same ns (Some w) = place_same ns w.bytes

-- an event with its numbers
module _ (c : ChartText) (s : Named) (instances : instance_names c ≡ bytes_of s.instances) (messages : message_names c ≡ bytes_of s.messages) (actions : action_names c ≡ bytes_of s.actions) where
  pub row_same : (e : EventWords) → Alone e → event_in c (event_by e) ≡ numbered s e
  row_same e alone = go e.kind refl
    where
      peer : peer_number (instance_names c) (option_map (λ w. w.bytes) e.peer) ≡ peer_of s.instances e.peer
      peer = ap (λ (ns : List (List ℕ)). peer_number ns (option_map (λ w. w.bytes) e.peer)) instances ∙ peer_same s.instances e.peer

      message : place_in (message_names c) e.name.bytes ≡ place_of s.messages e.name.bytes
      message = ap (λ (ns : List (List ℕ)). place_in ns e.name.bytes) messages ∙ place_same s.messages e.name.bytes

      act : place_in (action_names c) e.name.bytes ≡ place_of s.actions e.name.bytes
      act = ap (λ (ns : List (List ℕ)). place_in ns e.name.bytes) actions ∙ place_same s.actions e.name.bytes

      go : (k : Kind) → e.kind ≡ k → event_in c (event_by_kind k e.name.bytes (option_map (λ w. w.bytes) e.peer)) ≡ event_with (code_of k) (peer_of s.instances e.peer) (place_of (names_for s k) e.name.bytes)
      go Output is = ap₂ (event_with output) peer message
      go Input is = ap₂ (event_with input) peer message
      go Action is = ap₂ (event_with action) (sym (ap (peer_of s.instances) (alone is))) act

  pub rows_numbered : (text : List ℕ) (es : List EventWords) → Each (GoodEvent text) es → map (event_in c) (map event_by es) ≡ map (numbered s) es
  rows_numbered text [] h = refl
  rows_numbered text (e ∷ es) h = ap₂ (λ (x : Event) (xs : List Event). x ∷ xs) (row_same e h.0.alone) (rows_numbered text es h.1)

pub length_in_one : (L : List (List Event)) → length (in_one L) ≡ size L
length_in_one L = length-flat_map (λ (es : List Event). es) L

-- the names of the instances are those in the items
pub names_are : (t : Placed) (is : List Item) → instance_names (chart_by t is) ≡ bytes_of (names_in is)
names_are t is =
    map-map (λ (i : InstanceText). i.name) instance_by (instances_in is)
    ∙ sym (map-map (λ (w : Placed). w.bytes) (λ (n : InstanceWords). n.name) (instances_in is)) ∙ ap bytes_of (named_instances is)

-- a title and items that name no instance twice
module _ (t : Placed) (is : List Item) (b : bracketed false is ≡ true) (new : first_repeated [] (names_in is) ≡ None) where
  abbrev c : ChartText
  c = chart_by t is

  abbrev s : Named
  s = named_in is

  pub instances_same : instance_names c ≡ bytes_of s.instances
  instances_same = names_are t is ∙ ap bytes_of (sym (instances_once is new))

  pub events_same : events_in c ≡ map event_by (events_of is)
  events_same = events_said (instances_in is) ∙ ap (map event_by) (bracketed_events is b)

  pub messages_same : message_names c ≡ bytes_of s.messages
  messages_same = ap (λ (es : List EventText). once (flat_map message_of es)) events_same ∙ ap once (messages_said (events_of is)) ∙ once_same (messages_in (events_of is))

  pub actions_same : action_names c ≡ bytes_of s.actions
  actions_same = ap (λ (es : List EventText). once (flat_map action_of es)) events_same ∙ ap once (actions_said (events_of is)) ∙ once_same (actions_in (events_of is))

  pub lengths_charted : lengths_in is ≡ map length (lists_of c)
  lengths_charted = lengths_map (event_in c) (instances_in is)

  module _ (text : List ℕ) (good : Each (GoodEvent text) (events_of is)) where
    pub rows_charted : rows_in is ≡ in_one (lists_of c)
    rows_charted =
        ap (map (numbered s)) (bracketed_events is b) ∙ sym (rows_numbered c s instances_same messages_same actions_same text (events_of is) good)
        ∙ ap (map (event_in c)) (sym events_same) ∙ sym (in_one_map (event_in c) c.instances)
