-- A text is taken exactly when it writes a chart that keeps the rules, for which the tables have room.
use Rattle.std.proofs.Common.{◌≡◌, ℕ, ◌≤◌, Bool, true, false, cond, nat_le, nat_lt, List, [], length, map, slice_get, Some, None, Option, option_map, Ok, Err, Result, inl, inr, refl, sym, ap, ap₂, ◌∙◌, subst, leb-false, arith}
use Rattle.std.proofs.lemmas.Bool.{le-ltb}
use Rattle.std.proofs.lemmas.List.{length-map}
use Rattle.std.proofs.lemmas.Option.{slice_get-map}
use Rattle.charts.specs.declared.faults.Fault.{Fault as ChartFault}
use Rattle.charts.specs.declared.faults.Rule.TheVariants.{Lengths, Events}
use Rattle.charts.specs.Events.{no_event}
use Rattle.charts.specs.Judged.{unspoiled}
use Rattle.charts.specs.Lists.{size as size_of}
use Rattle.checks.specs.Choice.{unless, or_else}
use Rattle.checks.specs.Cut.{cut, in_one}
use Rattle.checks.specs.Checked.{checked}
use Rattle.checks.proofs.Joined.{cut_joined, joined_checked, checked_joined}
use Rattle.words.specs.declared.faults.Cause.TheVariants.{ShortTable, Chart}
use Rattle.words.specs.declared.faults.Fault.{Fault}
use Rattle.words.specs.Sentences.{Placed, sentences}
use Rattle.words.specs.Reading.{others}
use Rattle.sentences.specs.Wants.{at_byte}
use Rattle.items.specs.Items.{Item, Items, items_from}
use Rattle.items.specs.Instances.{instances_in}
use Rattle.items.specs.Parsing.{title_in}
use Rattle.items.specs.Surveys.{Size, names_in, events_in, items_in, items_if, first_repeated, counted_if, limited, sized, surveyed}
use Rattle.grammar.specs.Texts.{InstanceText, ChartText}
use Rattle.grammar.specs.Writing.{Writes}
use Rattle.grammar.specs.Brackets.{bracketed, events_of}
use Rattle.grammar.specs.Charts.{chart_by}
use Rattle.grammar.specs.Exact.{items_after}
use Rattle.grammar.proofs.Bracketing.{items_bracketed, bracketed_events}
use Rattle.grammar.proofs.Exactly.{sound, complete}
use Rattle.grammar.proofs.Lists.{bytes_of}
use Rattle.texts.specs.declared.rows.Name.{Name}
use Rattle.texts.specs.declared.reading.Reading.{Reading}
use Rattle.texts.specs.Rows.{no_name}
use Rattle.texts.specs.Directories.{named_in, messages_in, actions_in}
use Rattle.texts.specs.Drafts.{first_unknown}
use Rattle.texts.specs.Readings.{Rooms, Tables, Answer, all_events, lengths_in, rows_in, tables_of, enough, unknown_fault, chart_fault, refusal, answer, answer_in, unless_fault, read_sized, read_as, Reads}
use Rattle.texts.specs.Names.{instance_names, message_names, action_names}
use Rattle.texts.specs.Charted.{lists_of}
use Rattle.texts.specs.Static.{Static}
use Rattle.texts.specs.Builds.{bytes_at, StandFor, Builds}
use Rattle.texts.specs.Takes.{TooShortFor, Takes}
use Rattle.texts.proofs.Padding.{padded_few}
use Rattle.texts.proofs.Listed.{titled, events_counted}
use Rattle.texts.proofs.Sized.{Sized}
use Rattle.texts.proofs.Bracketed.{whole_bracketed, instances_once}
use Rattle.texts.proofs.Worded.{Each}
use Rattle.texts.proofs.Itemed.{Alone, GoodEvent, events_alone, good_items, names_stand, events_good, messages_stand, actions_stand, added_stand}
use Rattle.texts.proofs.Once.{one_place, not_repeated}
use Rattle.texts.proofs.Charting.{length_in_one, names_are, instances_same, messages_same, actions_same, lengths_charted, rows_charted}
use Rattle.texts.proofs.Peered.{got, peers_known, known_peers}
use Rattle.texts.proofs.Pointed.{padded_own, spell}
use Rattle.texts.proofs.Accepted.{has_enough, one_false, Free, accepted}

module _ (text : List ℕ) where
  abbrev is : List Item
  is = items_in (sentences text)

  good_events : Each (GoodEvent text) (events_of is)
  good_events = events_good text is (good_items text)

  module _ (t : Placed) (b : bracketed false is ≡ true) (new : first_repeated [] (names_in is) ≡ None) where
    abbrev c : ChartText
    c = chart_by t is

    -- the sizes of the chart, and of the items
    pub instances_counted : length (lists_of c) ≡ length (lengths_in is)
    instances_counted = sym (length-map (lists_of c) length) ∙ ap length (sym (lengths_charted t is b new))

    pub events_charted : size_of (lists_of c) ≡ length (rows_in is)
    events_charted = sym (length_in_one (lists_of c)) ∙ ap length (sym (rows_charted t is b new text good_events))

    pub instance_names_counted : length (instance_names c) ≡ length (named_in is).instances
    instance_names_counted = ap length (instances_same t is b new) ∙ length-map (named_in is).instances (λ w. w.bytes)

    pub message_names_counted : length (message_names c) ≡ length (named_in is).messages
    message_names_counted = ap length (messages_same t is b new) ∙ length-map (named_in is).messages (λ w. w.bytes)

    pub action_names_counted : length (action_names c) ≡ length (named_in is).actions
    action_names_counted = ap length (actions_same t is b new) ∙ length-map (named_in is).actions (λ w. w.bytes)

    pub checked_same : checked (lengths_in is) (rows_in is) ≡ checked (map length (lists_of c)) (in_one (lists_of c))
    checked_same = ap₂ checked (lengths_charted t is b new) (rows_charted t is b new text good_events)

    -- where no reason to refuse stands, the chart keeps the rules
    module _ (r : Rooms) (free : Free r is) where
      faultless : checked (map length (lists_of c)) (in_one (lists_of c)) ≡ None
      faultless = sym checked_same ∙ free.faultless

      keeps : Static c
      keeps =
          record {
            names_differ = λ i j m n at there same. one_place [] (names_in is) new i j n.name (named i m at ∙ ap Some same) (named j n there);
            peers_known = peers_known (instance_names c) (named_in is).instances (instances_same t is b new) (instances_in is) free.known;
            sound = checked_joined (lists_of c) faultless;
          }
        where
          named : (i : ℕ) (m : InstanceText) → slice_get c.instances i ≡ Some m → slice_get (bytes_of (names_in is)) i ≡ Some m.name
          named i m at =
              ap (λ (ns : List (List ℕ)). slice_get ns i) (sym (names_are t is)) ∙ slice_get-map (λ (x : InstanceText). x.name) c.instances i ∙ ap (option_map (λ (x : InstanceText). x.name)) at

      -- and the tables hold it
      builds : (size : Size) → Sized (sentences text) size → t ≡ size.title → Builds text c (answer size (named_in is)) (tables_of r is)
      builds size s title =
          let room = has_enough r is free.room in
          record {
            lengths = padded_own 0 r.lengths (lengths_in is) (map length (lists_of c)) room.lengths (lengths_charted t is b new);
            events = padded_own no_event r.events (rows_in is) (in_one (lists_of c)) room.events (rows_charted t is b new text good_events);
            instances = spell text r.instances (named_in is).instances (instance_names c) room.instances (added_stand text [] (names_in is) tt (names_stand text is (good_items text))) (instances_same t is b new);
            messages = spell text r.messages (named_in is).messages (message_names c) room.messages (added_stand text [] (messages_in (events_of is)) tt (messages_stand text is (good_items text))) (messages_same t is b new);
            actions = spell text r.actions (named_in is).actions (action_names c) room.actions (added_stand text [] (actions_in (events_of is)) tt (actions_stand text is (good_items text))) (actions_same t is b new);
            title = ap (λ (w : Placed). w.bytes) (sym title);
            instance_count = s.instances ∙ sym (ap length (instances_once is new)) ∙ sym instance_names_counted ∙ named_lists;
            event_count = s.events ∙ events_counted is ∙ sym many ∙ sym events_charted;
            message_count = sym message_names_counted;
            action_count = sym action_names_counted;
            faultless = faultless;
            chart = ap (λ (f : Option ChartFault). unspoiled f (cut (map length (lists_of c)) (in_one (lists_of c)))) faultless ∙ cut_joined (lists_of c);
          }
        where
          named_lists : length (instance_names c) ≡ length (lists_of c)
          named_lists = length-map c.instances (λ i. i.name) ∙ sym (length-map c.instances _)

          many : length (rows_in is) ≡ length (events_of is)
          many = length-map (all_events (instances_in is)) _ ∙ ap length (bracketed_events is b)

  -- a text that is read
  pub takes_ok : (r : Rooms) (a : Answer) (t : Tables) → read_as r (sentences text) ≡ Ok a → t ≡ tables_of r is → (c : ChartText) × Writes text c × Static c × Builds text c a t
  takes_ok r a t reads tables =
      let x = accepted (sentences text) r a reads in
      let w = x.sized.whole in
      let b = whole_bracketed (sentences text) w in
      let same = titled (sentences text) w in (
        chart_by x.size.title is,
        subst (λ (xs : List Item). Writes text (chart_by x.size.title xs)) (sym same) (sound text x.size.title x.sized.title w.ends),
        keeps x.size.title b w.once r x.free,
        subst (λ (y : Answer). Builds text (chart_by x.size.title is) y t) x.is
            (subst (Builds text (chart_by x.size.title is) (answer x.size (named_in is))) (sym tables) (builds x.size.title b w.once r x.free x.size x.sized refl)),
      )

  -- a chart that keeps the rules
  module _ (t : Placed) (rest : Items) (same : is ≡ rest.items) (titled_by : title_in (sentences text) ≡ Ok t) (ended : rest.outcome ≡ Ok tt) (after : items_from false (others (sentences text)) ≡ rest)
      (b : bracketed false is ≡ true) (k : Static (chart_by t is)) where
    abbrev d : ChartText
    d = chart_by t is

    new_names : first_repeated [] (names_in is) ≡ None
    new_names =
        not_repeated [] (names_in is) (λ i q at. refl)
        (λ i j q at there.
        let m = named_at i q at in
        let n = named_at j q there in
        k.names_differ i j m.0 n.0 m.1 n.1 (m.2 ∙ sym n.2))
      where
        named_at : (i : ℕ) (q : List ℕ) → slice_get (bytes_of (names_in is)) i ≡ Some q → (m : InstanceText) × (slice_get d.instances i ≡ Some m) × (m.name ≡ q)
        named_at i q at = got (λ (x : InstanceText). x.name) d.instances i q (ap (λ (ns : List (List ℕ)). slice_get ns i) (names_are t is) ∙ at)

    peers_same : first_unknown (named_in is).instances (all_events (instances_in is)) ≡ None
    peers_same =
        known_peers (instance_names d) (named_in is).instances (instances_same t is b new_names) (instances_in is)
        (subst (Each Alone) (sym (bracketed_events is b)) (events_alone text (events_of is) good_events)) k.peers_known

    no_fault : checked (lengths_in is) (rows_in is) ≡ None
    no_fault = checked_same t b new_names ∙ joined_checked (lists_of d) k.sound

    abbrev size : Size
    size = record { title = t; instances = length (names_in rest.items); events = events_in rest.items }

    few_instances : length (names_in rest.items) ≤ 32
    few_instances =
        let f = k.sound.few_instances in
        let m : length (lists_of d) ≡ length (instance_names d) = length-map d.instances _ ∙ sym (length-map d.instances (λ i. i.name)) in
        let n : length (instance_names d) ≡ length (names_in is) = ap length (names_are t is) ∙ length-map (names_in is) (λ w. w.bytes) in
        let s = ap (λ (xs : List Item). length (names_in xs)) same in
        omega arith

    few_events : events_in rest.items ≤ 4096
    few_events =
        let f = k.sound.few_events in
        let m = events_charted t b new_names in
        let n : length (rows_in is) ≡ length (events_of is) = length-map (all_events (instances_in is)) _ ∙ ap length (bracketed_events is b) in
        let e = events_counted is in
        let s = ap events_in same in
        omega arith

    surveys : surveyed (sentences text) ≡ Ok size
    surveys =
        ap (λ (z : Items). sized (title_in (sentences text)) (limited (counted_if (first_repeated [] (names_in z.items)) z.outcome (length (names_in z.items), events_in z.items)))) after
        ∙ ap (λ (o : Result Placed Fault). sized o (limited (counted_if (first_repeated [] (names_in rest.items)) rest.outcome count))) titled_by
        ∙ ap (λ (o : Option Placed). sized (Ok t) (limited (counted_if o rest.outcome count))) (ap (λ (xs : List Item). first_repeated [] (names_in xs)) (sym same) ∙ new_names)
        ∙ ap (λ (o : Result (Unit {0}) Fault). sized (Ok t) (limited (counted_if None o count))) ended
        ∙ ap (λ (z : Bool). sized (Ok t) (cond z (Err (at_byte (Chart Lengths) 0)) (cond (nat_lt 4096 count.1) (Err (at_byte (Chart Events) 0)) (Ok count)))) (le-ltb 32 count.0 few_instances)
        ∙ ap (λ (z : Bool). sized (Ok t) (cond z (Err (at_byte (Chart Events) 0)) (Ok count))) (le-ltb 4096 count.1 few_events)
      where
        count : ℕ × ℕ
        count = (length (names_in rest.items), events_in rest.items)

    module _ (r : Rooms) where
      refusal_is : refusal r is ≡ or_else (unless (enough r is) (at_byte ShortTable 0)) None
      refusal_is =
          ap₂ (λ (p : Option Placed) (o : Option ChartFault). or_else (unless (enough r is) (at_byte ShortTable 0)) (or_else (unknown_fault p) (or_else (chart_fault (instances_in is) o) None))) peers_same no_fault

      short : enough r is ≡ false → TooShortFor r d
      short h =
          let la = nat_le (length (lengths_in is)) r.lengths in
          let lb = nat_le (length (rows_in is)) r.events in
          let lc = nat_le (length (named_in is).instances) r.instances in
          let ld = nat_le (length (named_in is).messages) r.messages in
          let le = nat_le (length (named_in is).actions) r.actions in
          let na = instances_counted t b new_names in
          let nb = events_charted t b new_names in
          let nc = instance_names_counted t b new_names in
          let nd = message_names_counted t b new_names in
          let ne = action_names_counted t b new_names in
          elim (one_false la lb lc ld le h) [
            | inl x ↦ inl (let l = leb-false (length (lengths_in is)) r.lengths x in omega arith)
            | inr y ↦ elim y [
              | inl x ↦ inr (inl (let l = leb-false (length (rows_in is)) r.events x in omega arith))
              | inr z ↦ elim z [
                | inl x ↦ inr (inr (inl (let l = leb-false (length (named_in is).instances) r.instances x in omega arith)))
                | inr u ↦ elim u [
                  | inl x ↦ inr (inr (inr (inl (let l = leb-false (length (named_in is).messages) r.messages x in omega arith))))
                  | inr x ↦ inr (inr (inr (inr (let l = leb-false (length (named_in is).actions) r.actions x in omega arith))))
                ]
              ]
            ]
          ]

      refused_short : (f : Fault) → read_as r (sentences text) ≡ Err f → (f ≡ at_byte ShortTable 0) × TooShortFor r d
      refused_short f reads =
          go (enough r is) refl
          (sym (ap (read_sized r is) surveys ∙ ap (λ (o : Option Fault). unless_fault o (answer size (named_in is))) refusal_is) ∙ reads)
        where
          go : (e : Bool) → enough r is ≡ e → unless_fault (or_else (unless (enough r is) (at_byte ShortTable 0)) None) (answer size (named_in is)) ≡ Err f → (f ≡ at_byte ShortTable 0) × TooShortFor r d
          go true room h = let x = sym (ap (λ (e : Bool). unless_fault (or_else (unless e (at_byte ShortTable 0)) None) (answer size (named_in is))) room) ∙ h in cc
          go false room h = let x = sym (ap (λ (e : Bool). unless_fault (or_else (unless e (at_byte ShortTable 0)) None) (answer size (named_in is))) room) ∙ h in (let y : f ≡ at_byte ShortTable 0 = cc in y, short room)

  -- a text that is refused
  pub takes_err : (r : Rooms) (f : Fault) → read_as r (sentences text) ≡ Err f → (c : ChartText) → Writes text c → Static c → (f ≡ at_byte ShortTable 0) × TooShortFor r c
  takes_err r f reads c w k =
      let x = complete text c w in
      let same : is ≡ (items_after text).items = ap (λ (o : Result Placed Fault). items_if o (items_after text)) x.titled in
      let chart : c ≡ chart_by x.title is = x.chart ∙ ap (chart_by x.title) (sym same) in
      let b : bracketed false is ≡ true = ap (bracketed false) same ∙ items_bracketed false (others (sentences text)) x.ended in
      let s = refused_short x.title (items_after text) same x.titled x.ended refl b (subst Static chart k) r f reads in
      (s.0, subst (TooShortFor r) (sym chart) s.1)

-- what the exact promise of a reading says of the chart
pub takes : (text : List ℕ) (r : Rooms) (result : Result Reading Fault) (t : Tables) → Reads (sentences text) r result t → Takes text r result t
takes text r (Ok a) t h = takes_ok text r (answer_in a) t h.0 h.1
takes text r (Err f) t h = takes_err text r f h.0

-- tables that hold a chart have room for it
pub built_room : (text : List ℕ) (c : ChartText) (a : Answer) (t : Tables) → Builds text c a t →
    TooShortFor (record { lengths = length t.lengths; events = length t.events; instances = length t.instances; messages = length t.messages; actions = length t.actions }) c → ⊥
built_room text c a t h short =
    elim short [
      | inl x ↦ let f = padded_few 0 t.lengths (map length (lists_of c)) h.lengths in let l = length-map (lists_of c) length in omega arith
      | inr y ↦ elim y [
        | inl x ↦ let f = padded_few no_event t.events (in_one (lists_of c)) h.events in let l = length_in_one (lists_of c) in omega arith
        | inr z ↦ elim z [
          | inl x ↦ let f = rows_fit t.instances (instance_names c) h.instances in omega arith
          | inr u ↦ elim u [
            | inl x ↦ let f = rows_fit t.messages (message_names c) h.messages in omega arith
            | inr x ↦ let f = rows_fit t.actions (action_names c) h.actions in omega arith
          ]
        ]
      ]
    ]
  where
    rows_fit : (table : List Name) (names : List (List ℕ)) → StandFor text table names → length names ≤ length table
    rows_fit table names s = let f = padded_few no_name table s.rows s.table_is in let m = ap length s.names_are in let l = length-map s.rows (bytes_at text) in omega arith
