-- A text that is read has a listing, of a chart without a fault.
use Rattle.std.proofs.Common.{◌≡◌, ℕ, ◌+◌, ◌≤◌, true, ◌&&◌, nat_le, List, [], ◌∷◌, length, map, take, Some, None, Option, Ok, Err, Result, refl, sym, ap, ap₂, ◌∙◌, subst, arith}
use Rattle.std.specs.List.{list_all}
use Rattle.std.proofs.lemmas.Bool.{and_from, le-leb}
use Rattle.std.proofs.lemmas.List.{length-map}
use Rattle.charts.specs.declared.parts.Event.{Event}
use Rattle.charts.specs.Events.{no_event}
use Rattle.checks.specs.Cut.{in_one}
use Rattle.checks.specs.Checked.{checked}
use Rattle.words.specs.declared.faults.Fault.{Fault}
use Rattle.words.specs.Sentences.{Placed, sentences}
use Rattle.words.specs.Reading.{StandsIn}
use Rattle.items.specs.Items.{Item}
use Rattle.items.specs.Surveys.{Size, names_in, items_in, surveyed}
use Rattle.grammar.specs.Brackets.{events_of}
use Rattle.grammar.specs.Texts.{ChartText}
use Rattle.grammar.specs.Writing.{Writes}
use Rattle.texts.specs.declared.rows.Name.{Name}
use Rattle.texts.specs.declared.reading.Reading.{Reading}
use Rattle.texts.specs.Rows.{padded, no_name, row_of}
use Rattle.texts.specs.Directories.{named_in, messages_in, actions_in}
use Rattle.texts.specs.Readings.{Rooms, Tables, Answer, answer, answer_in, refusal, unless_fault, read_sized, read_as, Reads, greatest}
use Rattle.texts.specs.Names.{instance_names, message_names, action_names}
use Rattle.texts.specs.Charted.{lists_of}
use Rattle.texts.specs.Static.{Static}
use Rattle.texts.specs.Builds.{StandFor, Builds, bytes_at}
use Rattle.texts.proofs.Padding.{padded_few, take_rows}
use Rattle.texts.proofs.Sized.{Sized, sized_text}
use Rattle.texts.proofs.Bracketed.{instances_once}
use Rattle.texts.proofs.Worded.{Each}
use Rattle.texts.proofs.Itemed.{good_items, names_stand, messages_stand, actions_stand, added_stand}
use Rattle.texts.proofs.Charting.{length_in_one}
use Rattle.texts.proofs.Taking.{takes}
use Rattle.lines.specs.declared.listing.Listing.{Listing}
use Rattle.lines.specs.Names.{stands_in, are_names}
use Rattle.lines.specs.Listings.{has_rows, HoldsRows}
use Rattle.judged.specs.Shown.{ListsText, ShowsVerdict, ShowsRead, Shows}

module _ (text : List ℕ) where
  all_stand : (ns : List Placed) → Each (StandsIn text) ns → list_all (stands_in (length text)) (map row_of ns) ≡ true
  all_stand [] h = refl
  all_stand (n ∷ ns) h =
      and_from (stands_in (length text) (row_of n)) (list_all (stands_in (length text)) (map row_of ns))
      (and_from (nat_le (n.start + length n.bytes) (length text) && nat_le 1 (length n.bytes)) (nat_le (length n.bytes) 16)
      (and_from (nat_le (n.start + length n.bytes) (length text)) (nat_le 1 (length n.bytes)) (le-leb (n.start + length n.bytes) (length text) h.0.within) (le-leb 1 (length n.bytes) h.0.some))
      (le-leb (length n.bytes) 16 h.0.few))
      (all_stand ns h.1)

  -- the names that stand in a table
  named_rows : (ns : List Placed) (r n : ℕ) (table : List Name) → table ≡ padded no_name r (map row_of ns) → n ≤ length table → n ≡ length ns → Each (StandsIn text) ns → are_names (length text) n table ≡ true
  named_rows ns r n table is few same h =
      and_from (nat_le n (length table)) (list_all (stands_in (length text)) (take n table)) (le-leb n (length table) few)
      (ap (λ (xs : List Name). list_all (stands_in (length text)) (take n xs)) is
      ∙ ap (list_all (stands_in (length text))) (take_rows no_name r n (map row_of ns) (padded no_name r (map row_of ns)) refl (same ∙ sym (length-map ns row_of))) ∙ all_stand ns h)

  spelled_few : (table : List Name) (names : List (List ℕ)) (n : ℕ) → StandFor text table names → n ≡ length names → n ≤ length table
  spelled_few table names n s is = let f = padded_few no_name table s.rows s.table_is in let m = ap length s.names_are in let l = length-map s.rows (bytes_at text) in omega arith

  -- what was read is of this size
  record Answered (a : Answer) : Type 0 where
    pub size : Size
    pub sized : Sized (sentences text) size
    pub is : answer size (named_in (items_in (sentences text))) ≡ a

  answered : (r : Rooms) (a : Answer) → read_as r (sentences text) ≡ Ok a → Answered a
  answered r a h = go (surveyed (sentences text)) refl h
    where
      go : (z : Result Size Fault) → surveyed (sentences text) ≡ z → read_sized r (items_in (sentences text)) z ≡ Ok a → Answered a
      go (Err f) surveys h = cc
      go (Ok size) surveys h = by (refusal r (items_in (sentences text))) h
        where
          by : (o : Option Fault) → unless_fault o (answer size (named_in (items_in (sentences text)))) ≡ Ok a → Answered a
          by (Some f) h = cc
          by None h = record { size = size; sized = sized_text (sentences text) size surveys; is = cc }

  module _ (a : Reading) (t : Tables) (of_text : a.text.now ≡ text) (h : Reads (sentences text) greatest (Ok a) t) where
    abbrev is : List Item
    is = items_in (sentences text)

    pub read_chart : (c : ChartText) × Writes text c × Static c × Builds text c (answer_in a) t
    read_chart = takes text greatest (Ok a) t h

    pub all_rows : has_rows a t.lengths t.events t.instances t.messages t.actions ≡ true
    all_rows =
        subst (λ (bs : List ℕ). nat_le a.instances (length t.lengths) && nat_le a.events (length t.events) && are_names (length bs) a.instances t.instances && are_names (length bs) a.messages t.messages && are_names (length bs) a.actions t.actions ≡ true) (sym of_text)
        (and_from
        (nat_le a.instances (length t.lengths) && nat_le a.events (length t.events) && are_names (length text) a.instances t.instances && are_names (length text) a.messages t.messages)
        (are_names (length text) a.actions t.actions)
        (and_from
        (nat_le a.instances (length t.lengths) && nat_le a.events (length t.events) && are_names (length text) a.instances t.instances)
        (are_names (length text) a.messages t.messages)
        (and_from
        (nat_le a.instances (length t.lengths) && nat_le a.events (length t.events))
        (are_names (length text) a.instances t.instances)
        (and_from (nat_le a.instances (length t.lengths)) (nat_le a.events (length t.events)) (le-leb a.instances (length t.lengths) lengths_few) (le-leb a.events (length t.events) events_few))
        instances_named)
        messages_named)
        actions_named)
      where
        x : Answered (answer_in a)
        x = answered greatest (answer_in a) h.0

        b : Builds text read_chart.0 (answer_in a) t
        b = read_chart.3

        L : List (List Event)
        L = lists_of read_chart.0

        lengths_few : a.instances ≤ length t.lengths
        lengths_few = let f = padded_few 0 t.lengths (map length L) b.lengths in let l = length-map L length in let n = b.instance_count in omega arith

        events_few : a.events ≤ length t.events
        events_few = let f = padded_few no_event t.events (in_one L) b.events in let l = length_in_one L in let n = b.event_count in omega arith

        instances_named : are_names (length text) a.instances t.instances ≡ true
        instances_named =
            named_rows (named_in is).instances 32 a.instances t.instances (ap (λ (u : Tables). u.instances) h.1)
            (spelled_few t.instances (instance_names read_chart.0) a.instances b.instances (b.instance_count ∙ length-map read_chart.0.instances _ ∙ sym (length-map read_chart.0.instances (λ i. i.name))))
            (sym (ap (λ (y : Answer). y.instances) x.is) ∙ x.sized.instances ∙ sym (ap length (instances_once is x.sized.whole.once)))
            (added_stand text [] (names_in is) tt (names_stand text is (good_items text)))

        messages_named : are_names (length text) a.messages t.messages ≡ true
        messages_named =
            named_rows (named_in is).messages 4096 a.messages t.messages (ap (λ (u : Tables). u.messages) h.1) (spelled_few t.messages (message_names read_chart.0) a.messages b.messages b.message_count)
            (sym (ap (λ (y : Answer). y.messages) x.is)) (added_stand text [] (messages_in (events_of is)) tt (messages_stand text is (good_items text)))

        actions_named : are_names (length text) a.actions t.actions ≡ true
        actions_named =
            named_rows (named_in is).actions 4096 a.actions t.actions (ap (λ (u : Tables). u.actions) h.1) (spelled_few t.actions (action_names read_chart.0) a.actions b.actions b.action_count)
            (sym (ap (λ (y : Answer). y.actions) x.is)) (added_stand text [] (actions_in (events_of is)) tt (actions_stand text is (good_items text)))

-- a listing of tables that hold a chart
module _ (text : List ℕ) (c : ChartText) (a : Answer) (t : Tables) (l : Listing) (r : Reading) (answered_by : answer_in r ≡ a) (b : Builds text c a t) (held : HoldsRows r t.lengths t.events t.instances t.messages t.actions l) where
  pub lengths_held : l.table.lengths.now ≡ map length (lists_of c)
  lengths_held =
      held.lengths_used ∙ ap (take r.instances) b.lengths
      ∙ take_rows 0 (length t.lengths) r.instances (map length (lists_of c)) (padded 0 (length t.lengths) (map length (lists_of c))) refl (ap (λ (y : Answer). y.instances) answered_by ∙ b.instance_count ∙ sym (length-map (lists_of c) length))

  pub events_held : l.table.events.now ≡ in_one (lists_of c)
  events_held =
      held.events_used ∙ ap (take r.events) b.events
      ∙ take_rows no_event (length t.events) r.events (in_one (lists_of c)) (padded no_event (length t.events) (in_one (lists_of c))) refl (ap (λ (y : Answer). y.events) answered_by ∙ b.event_count ∙ sym (length_in_one (lists_of c)))

  pub faultless_held : checked l.table.lengths.now l.table.events.now ≡ None
  faultless_held = ap₂ checked lengths_held events_held ∙ b.faultless

-- the listing of a text that is read
pub lists_text : (a : Reading) (t : Tables) (l : Listing) → Reads (sentences a.text.now) greatest (Ok a) t → HoldsRows a t.lengths t.events t.instances t.messages t.actions l → ListsText a.text.now (answer_in a) l
lists_text a t l h held =
    record {
      text_is = ap (λ (r : Reading). r.text.now) held.reading;
      answer_is = ap answer_in held.reading;
      holds =
          subst (λ (u : Tables). HoldsRows l.reading u.lengths u.events u.instances u.messages u.actions l) h.1
          (subst (λ (r : Reading). HoldsRows r t.lengths t.events t.instances t.messages t.actions l) (sym held.reading) held);
    }

-- its lines
pub shows_read : (a : Reading) (t : Tables) (l : Listing) (bytes : List ℕ) → Reads (sentences a.text.now) greatest (Ok a) t → HoldsRows a t.lengths t.events t.instances t.messages t.actions l → ShowsVerdict l bytes → Shows a.text.now bytes
shows_read a t l bytes h held shows = subst (λ (x : Result Answer Fault). ShowsRead a.text.now x bytes) (sym h.0) (l, lists_text a t l h held, shows)
