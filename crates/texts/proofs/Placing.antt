-- A fault stands in the text, or where the text ends.
use Rattle.std.proofs.Common.{ℕ, zero, suc, ◌≤◌, Bool, true, false, cond, nat_lt, List, [], ◌∷◌, ◌++◌, length, Some, None, Option, IfSome, Ok, Err, Result, IfErr, subst, codes, arith}
use Rattle.std.specs.Str.{bytes_eq}
use Rattle.charts.specs.declared.faults.Fault.{Fault as ChartFault}
use Rattle.charts.specs.declared.faults.Rule.TheVariants.{Lengths, Events}
use Rattle.charts.specs.declared.kinds.Kind.{Kind}
use Rattle.charts.specs.declared.kinds.Kind.TheVariants.{Output, Input, Action}
use Rattle.checks.specs.Choice.{unless, or_else}
use Rattle.checks.specs.Checked.{checked}
use Rattle.words.specs.declared.faults.Cause.{Cause}
use Rattle.words.specs.declared.faults.Cause.TheVariants.{WrongWord, ShortTable, Chart}
use Rattle.words.specs.declared.faults.Fault.{Fault}
use Rattle.words.specs.Sentences.{Placed, Sentence, Ending, semicolon, text_end, fault, sentences}
use Rattle.words.specs.Reading.{StandsIn, others}
use Rattle.sentences.specs.Wants.{Want, exactly, name, peer, among, fault_of, at_byte, no_word, and_then, if_wanted, closed, reads, reserved}
use Rattle.sentences.specs.Events.{EventWords, PeerStandsIn, if_read, kind_in, event_of_kind, event_in}
use Rattle.items.specs.Items.{Item, Items, event, instance_named, instance_ends, refused, with_item, if_closed, if_event, heading, outside_by, inside_by, nothing_in, finished, items_from}
use Rattle.items.specs.Instances.{InstanceWords, events_before, instances_in}
use Rattle.items.specs.Parsing.{second, title_in}
use Rattle.items.specs.Surveys.{Size, names_in, items_in, first_repeated, counted_if, counted, limited, sized, surveyed}
use Rattle.texts.specs.declared.reading.Reading.{Reading}
use Rattle.texts.specs.Directories.{named_in}
use Rattle.texts.specs.Drafts.{unknown_in, first_unknown}
use Rattle.texts.specs.Starts.{start_among, start_at}
use Rattle.texts.specs.Readings.{Rooms, Tables, Answer, all_events, lengths_in, rows_in, enough, unknown_fault, chart_fault, refusal, answer, unless_fault, read_sized, read_as, Reads}
use Rattle.texts.proofs.Worded.{Each, each_append, EndsIn, Worded, worded}
use Rattle.texts.proofs.Itemed.{GoodEvent, AllGood, good_from, other_sentences, good_items, names_stand}

module _ (text : List ℕ) where
  -- the fault stands in the text
  abbrev pub InText : Fault → Type 0
  InText f = f.byte ≤ length text

  abbrev pub FaultIn : {T : Type 0} → Result T Fault → Type 0
  FaultIn r = IfErr r InText

  -- a word that stands in the text starts there
  starts_in : (w : Placed) → StandsIn text w → w.start ≤ length text
  starts_in w h = let l = h.within in omega arith

  no_word_in : (e : Ending) → EndsIn text e → InText (no_word e)
  no_word_in (semicolon n) h = h
  no_word_in (text_end n) h = h
  no_word_in (fault c n) h = h

  -- the fault of a sentence
  closed_in : (ws : List Placed) (e : Ending) → Each (StandsIn text) ws → EndsIn text e → FaultIn (closed ws e)
  closed_in [] (semicolon n) h k = tt
  closed_in [] (text_end n) h k = k
  closed_in [] (fault c n) h k = k
  closed_in (w ∷ ws) e h k = starts_in w h.0

  after_word : (w : Placed) (r : Result (List Placed) Fault) → FaultIn r → FaultIn (and_then w r)
  after_word w (Ok ws) h = tt
  after_word w (Err f) h = h

  wanted_in : (o : Option Cause) (w : Placed) (r : Result (List Placed) Fault) → StandsIn text w → FaultIn r → FaultIn (if_wanted o w r)
  wanted_in None w r h k = after_word w r k
  wanted_in (Some c) w r h k = starts_in w h

  reads_in : (ps : List Want) (ws : List Placed) (e : Ending) → Each (StandsIn text) ws → EndsIn text e → FaultIn (reads ps ws e)
  reads_in [] ws e h k = closed_in ws e h k
  reads_in (p ∷ ps) [] e h k = no_word_in e k
  reads_in (p ∷ ps) (w ∷ ws) e h k = wanted_in (fault_of p w.bytes) w (reads ps ws e) h.0 (reads_in ps ws e h.1 k)

  -- the fault of an event
  read_event : (at : ℕ) (k : Kind) (r : Result (List Placed) Fault) → FaultIn r → FaultIn (if_read at k r)
  read_event at k (Ok ws) h = tt
  read_event at k (Err f) h = h

  kind_event : (o : Option Kind) (v : Placed) (ws : List Placed) (e : Ending) → Each (StandsIn text) (v ∷ ws) → EndsIn text e → FaultIn (event_of_kind o v (record { words = ws; ending = e }))
  kind_event None v ws e h k = starts_in v h.0
  kind_event (Some Output) v ws e h k = read_event v.start Output (reads (name ∷ exactly (codes "to") ∷ peer ∷ []) ws e) (reads_in (name ∷ exactly (codes "to") ∷ peer ∷ []) ws e h.1 k)
  kind_event (Some Input) v ws e h k = read_event v.start Input (reads (name ∷ exactly (codes "from") ∷ peer ∷ []) ws e) (reads_in (name ∷ exactly (codes "from") ∷ peer ∷ []) ws e h.1 k)
  kind_event (Some Action) v ws e h k = read_event v.start Action (reads (name ∷ []) ws e) (reads_in (name ∷ []) ws e h.1 k)

  -- the fault in items
  abbrev pub ItemsIn : Items → Type 0
  ItemsIn is = FaultIn is.outcome

  after_closed : (r : Result (List Placed) Fault) (is : Items) → FaultIn r → ItemsIn is → ItemsIn (if_closed r is)
  after_closed (Ok ws) is h k = k
  after_closed (Err f) is h k = h

  after_event : (r : Result EventWords Fault) (is : Items) → FaultIn r → ItemsIn is → ItemsIn (if_event r is)
  after_event (Ok x) is h k = k
  after_event (Err f) is h k = h

  either : (b : Bool) (x y : Items) → ItemsIn x → ItemsIn y → ItemsIn (cond b x y)
  either true x y hx hy = hx
  either false x y hx hy = hy

  after_heading : (ws : List Placed) (e : Ending) (inside : Items) → Each (StandsIn text) ws → EndsIn text e → ItemsIn inside → ItemsIn (heading ws e inside)
  after_heading [] e inside h k i = no_word_in e k
  after_heading (n ∷ ws) e inside h k i =
      either (reserved n.bytes) (refused (at_byte WrongWord n.start)) (with_item (instance_named n) (if_closed (closed ws e) inside)) (starts_in n h.0)
      (after_closed (closed ws e) inside (closed_in ws e h.1 k) i)

  after_inside : (ws : List Placed) (e : Ending) (inside outside : Items) → Each (StandsIn text) ws → EndsIn text e → ItemsIn inside → ItemsIn outside → ItemsIn (inside_by ws e inside outside)
  after_inside [] e inside outside h k i o = no_word_in e k
  after_inside (v ∷ ws) e inside outside h k i o =
      either (bytes_eq v.bytes (codes "endinstance")) (if_closed (closed ws e) (with_item instance_ends outside)) (if_event (event_in v (record { words = ws; ending = e })) inside)
      (after_closed (closed ws e) (with_item instance_ends outside) (closed_in ws e h.1 k) o)
      (after_event (event_in v (record { words = ws; ending = e })) inside (kind_event (kind_in v.bytes) v ws e h k) i)

  after_outside : (ws : List Placed) (e : Ending) (inside end : Items) → Each (StandsIn text) ws → EndsIn text e → ItemsIn inside → ItemsIn end → ItemsIn (outside_by ws e inside end)
  after_outside [] e inside end h k i o = no_word_in e k
  after_outside (v ∷ ws) e inside end h k i o =
      either (bytes_eq v.bytes (codes "instance")) (heading ws e inside) (cond (bytes_eq v.bytes (codes "endmsc")) (if_closed (closed ws e) end) (refused (at_byte WrongWord v.start)))
      (after_heading ws e inside h.1 k i)
      (either (bytes_eq v.bytes (codes "endmsc")) (if_closed (closed ws e) end) (refused (at_byte WrongWord v.start)) (after_closed (closed ws e) end (closed_in ws e h.1 k) o) (starts_in v h.0))

  nothing_after : (ws : List Placed) (e : Ending) → Each (StandsIn text) ws → EndsIn text e → FaultIn (nothing_in ws e)
  nothing_after [] (semicolon n) h k = k
  nothing_after [] (text_end n) h k = tt
  nothing_after [] (fault c n) h k = k
  nothing_after (w ∷ ws) e h k = starts_in w h.0

  after_end : (ss : List Sentence) → Worded text ss → ItemsIn (finished ss)
  after_end [] h = tt
  after_end (s ∷ ss) h = nothing_after s.words s.ending h.0.0 h.0.1

  items_placed : (inside : Bool) (ss : List Sentence) → Worded text ss → ItemsIn (items_from inside ss)
  items_placed inside [] h = let z : 0 ≤ length text = omega arith in z
  items_placed true (s ∷ ss) h = after_inside s.words s.ending (items_from true ss) (items_from false ss) h.0.0 h.0.1 (items_placed true ss h.1) (items_placed false ss h.1)
  items_placed false (s ∷ ss) h = after_outside s.words s.ending (items_from true ss) (finished ss) h.0.0 h.0.1 (items_placed true ss h.1) (after_end ss h.1)

  -- the fault of a title
  second_in : (r : Result (List Placed) Fault) → FaultIn r → FaultIn (second r)
  second_in (Ok []) h = let z : 0 ≤ length text = omega arith in z
  second_in (Ok (m ∷ [])) h = let z : 0 ≤ length text = omega arith in z
  second_in (Ok (m ∷ n ∷ ws)) h = tt
  second_in (Err f) h = h

  title_placed : (ss : List Sentence) → Worded text ss → FaultIn (title_in ss)
  title_placed [] h = let z : 0 ≤ length text = omega arith in z
  title_placed (s ∷ ss) h = second_in (reads (exactly (codes "msc") ∷ name ∷ []) s.words s.ending) (reads_in (exactly (codes "msc") ∷ name ∷ []) s.words s.ending h.0.0 h.0.1)

  -- an instance that is named twice
  repeated_in : (seen ns : List Placed) → Each (StandsIn text) ns → IfSome (first_repeated seen ns) (λ n. n.start ≤ length text)
  repeated_in seen [] h = tt
  repeated_in seen (n ∷ ns) h = go (among seen n.bytes) (repeated_in (seen ++ (n ∷ [])) ns h.1)
    where
      go : (b : Bool) → IfSome (first_repeated (seen ++ (n ∷ [])) ns) (λ m. m.start ≤ length text) → IfSome (cond b (Some n) (first_repeated (seen ++ (n ∷ [])) ns)) (λ m. m.start ≤ length text)
      go true more = starts_in n h.0
      go false more = more

  -- the fault of a survey
  counted_in : (o : Option Placed) (r : Result (Unit {0}) Fault) (c : ℕ × ℕ) → IfSome o (λ n. n.start ≤ length text) → FaultIn r → FaultIn (counted_if o r c)
  counted_in (Some n) r c h k = h
  counted_in None (Ok u) c h k = tt
  counted_in None (Err f) c h k = k

  limited_in : (r : Result (ℕ × ℕ) Fault) → FaultIn r → FaultIn (limited r)
  limited_in (Err f) h = h
  limited_in (Ok c) h = go (nat_lt 32 c.0) (nat_lt 4096 c.1)
    where
      go : (a b : Bool) → FaultIn (cond a (Err (at_byte (Chart Lengths) 0)) (cond b (Err (at_byte (Chart Events) 0)) (Ok c)))
      go true b = let z : 0 ≤ length text = omega arith in z
      go false true = let z : 0 ≤ length text = omega arith in z
      go false false = tt

  sized_in : (t : Result Placed Fault) (r : Result (ℕ × ℕ) Fault) → FaultIn t → FaultIn r → FaultIn (sized t r)
  sized_in (Err f) r h k = h
  sized_in (Ok t) (Err f) h k = k
  sized_in (Ok t) (Ok c) h k = tt

  module _ (ss : List Sentence) (h : Worded text ss) (stand : Each (StandsIn text) (names_in (items_from false (others ss)).items)) where
    survey_in : FaultIn (surveyed ss)
    survey_in =
        sized_in (title_in ss) (limited (counted (items_from false (others ss)))) (title_placed ss h)
        (limited_in (counted (items_from false (others ss)))
        (counted_in (first_repeated [] (names_in (items_from false (others ss)).items)) (items_from false (others ss)).outcome _ (repeated_in [] (names_in (items_from false (others ss)).items) stand)
        (items_placed false (others ss) (other_sentences text ss h))))

  -- the events of instances
  before_good : (is : List Item) → AllGood text is → Each (GoodEvent text) (events_before is)
  before_good [] h = tt
  before_good (instance_named n ∷ is) h = tt
  before_good (event e ∷ is) h = (h.0, before_good is h.1)
  before_good (instance_ends ∷ is) h = tt

  instances_good : (is : List Item) → AllGood text is → Each (λ n. Each (GoodEvent text) n.events) (instances_in is)
  instances_good [] h = tt
  instances_good (instance_named n ∷ is) h = (before_good is h.1, instances_good is h.1)
  instances_good (event e ∷ is) h = instances_good is h.1
  instances_good (instance_ends ∷ is) h = instances_good is h.1

  all_good : (ns : List InstanceWords) → Each (λ n. Each (GoodEvent text) n.events) ns → Each (GoodEvent text) (all_events ns)
  all_good [] h = tt
  all_good (n ∷ ns) h = each_append (GoodEvent text) n.events (all_events ns) h.0 (all_good ns h.1)

  -- a peer that is unknown
  unknown_stands : (ns : List Placed) (o : Option Placed) → PeerStandsIn text o → IfSome (unknown_in ns o) (λ w. w.start ≤ length text)
  unknown_stands ns None h = tt
  unknown_stands ns (Some w) h = go (among ns w.bytes)
    where
      go : (b : Bool) → IfSome (cond b None (Some w)) (λ w. w.start ≤ length text)
      go true = tt
      go false = starts_in w h

  either_word : (a b : Option Placed) → IfSome a (λ w. w.start ≤ length text) → IfSome b (λ w. w.start ≤ length text) → IfSome (or_else a b) (λ w. w.start ≤ length text)
  either_word None b h k = k
  either_word (Some w) b h k = h

  first_stands : (ns : List Placed) (es : List EventWords) → Each (GoodEvent text) es → IfSome (first_unknown ns es) (λ w. w.start ≤ length text)
  first_stands ns [] h = tt
  first_stands ns (e ∷ es) h = either_word (unknown_in ns e.peer) (first_unknown ns es) (unknown_stands ns e.peer h.0.peer) (first_stands ns es h.1)

  -- where an event starts
  among_placed : (k : ℕ) (es : List EventWords) → Each (GoodEvent text) es → start_among k es ≤ length text
  among_placed k [] h = omega arith
  among_placed zero (e ∷ es) h = h.0.start
  among_placed (suc k) (e ∷ es) h = among_placed k es h.1

  start_placed : (i k : ℕ) (ns : List InstanceWords) → Each (λ n. Each (GoodEvent text) n.events) ns → start_at i k ns ≤ length text
  start_placed i k [] h = omega arith
  start_placed zero k (n ∷ ns) h = among_placed k n.events h.0
  start_placed (suc i) k (n ∷ ns) h = start_placed i k ns h.1

  -- a refusal
  abbrev pub SomeIn : Option Fault → Type 0
  SomeIn o = IfSome o InText

  first_fault : (a b : Option Fault) → SomeIn a → SomeIn b → SomeIn (or_else a b)
  first_fault None b h k = k
  first_fault (Some f) b h k = h

  room_placed : (b : Bool) → SomeIn (unless b (at_byte ShortTable 0))
  room_placed true = tt
  room_placed false = let z : 0 ≤ length text = omega arith in z

  unknown_placed : (o : Option Placed) → IfSome o (λ w. w.start ≤ length text) → SomeIn (unknown_fault o)
  unknown_placed None h = tt
  unknown_placed (Some w) h = h

  chart_placed : (ns : List InstanceWords) (o : Option ChartFault) → Each (λ n. Each (GoodEvent text) n.events) ns → SomeIn (chart_fault ns o)
  chart_placed ns None h = tt
  chart_placed ns (Some f) h = start_placed f.instance f.event ns h

  refusal_placed : (r : Rooms) (is : List Item) → AllGood text is → SomeIn (refusal r is)
  refusal_placed r is good =
      let insts = instances_good is good in
      let unknown = first_unknown (named_in is).instances (all_events (instances_in is)) in
      first_fault (unless (enough r is) (at_byte ShortTable 0)) _ (room_placed (enough r is))
      (first_fault (unknown_fault unknown) _ (unknown_placed unknown (first_stands (named_in is).instances (all_events (instances_in is)) (all_good (instances_in is) insts)))
      (first_fault (chart_fault (instances_in is) (checked (lengths_in is) (rows_in is))) None (chart_placed (instances_in is) (checked (lengths_in is) (rows_in is)) insts) tt))

  answer_placed : (o : Option Fault) (a : Answer) → SomeIn o → FaultIn (unless_fault o a)
  answer_placed None a h = tt
  answer_placed (Some f) a h = h

  sized_placed : (r : Rooms) (is : List Item) (z : Result Size Fault) → AllGood text is → FaultIn z → FaultIn (read_sized r is z)
  sized_placed r is (Err f) good h = h
  sized_placed r is (Ok size) good h = answer_placed (refusal r is) (answer size (named_in is)) (refusal_placed r is good)

  read_placed : (r : Rooms) → FaultIn (read_as r (sentences text))
  read_placed r =
      let ss = sentences text in
      let good = good_from text false (others ss) (other_sentences text ss (worded text)) in
      sized_placed r (items_in ss) (surveyed ss) (good_items text) (survey_in ss (worded text) (names_stand text (items_from false (others ss)).items good))

-- a text is refused at a byte of it, or at its end
pub refused_within : (text : List ℕ) (r : Rooms) (result : Result Reading Fault) (t : Tables) → Reads (sentences text) r result t → IfErr result (λ f. f.byte ≤ length text)
refused_within text r (Ok a) t h = tt
refused_within text r (Err f) t h = subst (FaultIn text) h.0 (read_placed text r)
