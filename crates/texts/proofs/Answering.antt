-- What a text of some size is read as.
use Rattle.std.proofs.Common.{◌≡◌, ◌<◌, ◌≤◌, ◌⊎◌, Bool, true, false, ◌&&◌, List, length, nat_le, Some, None, Option, Ok, Err, inl, inr, refl, sym, ap, ◌∙◌, arith}
use Rattle.std.proofs.lemmas.Bool.{le-leb, lt-leb}
use Rattle.std.proofs.lemmas.List.{length-map}
use Rattle.charts.specs.declared.faults.Fault.{Fault as ChartFault}
use Rattle.checks.specs.Choice.{unless, or_else}
use Rattle.checks.specs.Checked.{checked}
use Rattle.words.specs.declared.faults.Cause.TheVariants.{ShortTable}
use Rattle.words.specs.declared.faults.Fault.{Fault}
use Rattle.words.specs.Sentences.{Placed, Sentence}
use Rattle.sentences.specs.Wants.{at_byte}
use Rattle.items.specs.Items.{Item}
use Rattle.items.specs.Instances.{instances_in}
use Rattle.items.specs.Surveys.{Size, items_in, surveyed}
use Rattle.grammar.specs.Brackets.{events_of}
use Rattle.grammar.proofs.Bracketing.{bracketed_events, instance_names}
use Rattle.texts.specs.Directories.{TooShort, named_in}
use Rattle.texts.specs.Drafts.{first_unknown, numbered, lengths_from}
use Rattle.texts.specs.Resolving.{IsUnknown}
use Rattle.texts.specs.Checking.{fault_in}
use Rattle.texts.specs.Readings.{Rooms, all_events, lengths_in, rows_in, enough, unknown_fault, chart_fault, refusal, answer, unless_fault, read_sized, read_as}
use Rattle.texts.proofs.Listed.{events_counted}
use Rattle.texts.proofs.Sized.{Sized}
use Rattle.texts.proofs.Bracketed.{whole_bracketed, lengths_same, start_same, instances_once}

module _ (ss : List Sentence) (size : Size) (surveys : surveyed ss ≡ Ok size) (s : Sized ss size) (r : Rooms) where
  abbrev is : List Item
  is = items_in ss

  refused_by : (f : Fault) → refusal r is ≡ Some f → read_as r ss ≡ Err f
  refused_by f x = ap (read_sized r is) surveys ∙ ap (λ (o : Option Fault). unless_fault o (answer size (named_in is))) x

  -- as many lengths as instances, and as many rows as events
  pub as_long : length (lengths_in is) ≡ size.instances
  as_long = length-map (instances_in is) (λ n. length n.events) ∙ sym (length-map (instances_in is) (λ n. n.name)) ∙ ap length (instance_names is) ∙ sym s.instances

  pub as_many : length (rows_in is) ≡ size.events
  as_many =
      length-map (all_events (instances_in is)) (numbered (named_in is))
      ∙ ap length (bracketed_events is (whole_bracketed ss s.whole)) ∙ sym (events_counted is) ∙ sym s.events

  pub as_many_names : length (named_in is).instances ≡ size.instances
  as_many_names = ap length (instances_once is s.whole.once) ∙ sym s.instances

  pub few_names : length (named_in is).instances ≤ 32
  few_names = let e = ap length (instances_once is s.whole.once) in let f = s.whole.few_instances in omega arith

  pub length_rows : size.instances ≤ r.lengths → length (lengths_from 0 is) ≤ r.lengths
  length_rows fits = let e = ap length (lengths_same is (whole_bracketed ss s.whole)) in let l = as_long in omega arith

  pub event_rows : size.events ≤ r.events → length (events_of is) ≤ r.events
  event_rows fits = let e = events_counted is in let n = s.events in omega arith

  -- a table that is too short
  module _ where
    short_by : (a b c d e : Bool) → (a ≡ false) ⊎ ((b ≡ false) ⊎ ((c ≡ false) ⊎ ((d ≡ false) ⊎ (e ≡ false)))) → ((a && b) && (c && (d && e))) ≡ false
    short_by false b c d e x = refl
    short_by true false c d e x = refl
    short_by true true false d e x = refl
    short_by true true true false e x = refl
    short_by true true true true false x = refl
    short_by true true true true true x = elim x [ inl y ↦ cc | inr y ↦ elim y [ inl z ↦ cc | inr z ↦ elim z [ inl u ↦ cc | inr u ↦ elim u [ inl v ↦ cc | inr v ↦ cc ] ] ] ]

    not_enough :
        (nat_le (length (lengths_in is)) r.lengths ≡ false) ⊎ ((nat_le (length (rows_in is)) r.events ≡ false) ⊎ ((nat_le (length (named_in is).instances) r.instances ≡ false)
        ⊎ ((nat_le (length (named_in is).messages) r.messages ≡ false) ⊎ (nat_le (length (named_in is).actions) r.actions ≡ false)))) → enough r is ≡ false
    not_enough = short_by (nat_le (length (lengths_in is)) r.lengths) (nat_le (length (rows_in is)) r.events) (nat_le (length (named_in is).instances) r.instances) (nat_le (length (named_in is).messages) r.messages) (nat_le (length (named_in is).actions) r.actions)

    refused_short : enough r is ≡ false → read_as r ss ≡ Err (at_byte ShortTable 0)
    refused_short x =
        refused_by (at_byte ShortTable 0)
        (ap (λ (b : Bool). or_else (unless b (at_byte ShortTable 0)) (or_else (unknown_fault (first_unknown (named_in is).instances (all_events (instances_in is)))) (or_else (chart_fault (instances_in is) (checked (lengths_in is) (rows_in is))) None))) x)

    pub short_lengths : r.lengths < size.instances → read_as r ss ≡ Err (at_byte ShortTable 0)
    short_lengths l = refused_short (not_enough (inl (lt-leb (length (lengths_in is)) r.lengths (let x = as_long in omega arith))))

    pub short_events : r.events < size.events → read_as r ss ≡ Err (at_byte ShortTable 0)
    short_events l = refused_short (not_enough (inr (inl (lt-leb (length (rows_in is)) r.events (let x = as_many in omega arith)))))

    pub short_names : TooShort r.instances r.messages r.actions (named_in is) → read_as r ss ≡ Err (at_byte ShortTable 0)
    short_names t =
        refused_short
        (elim t [
          | inl x ↦ not_enough (inr (inr (inl (lt-leb (length (named_in is).instances) r.instances x))))
          | inr y ↦ elim y [
            | inl x ↦ not_enough (inr (inr (inr (inl (lt-leb (length (named_in is).messages) r.messages x)))))
            | inr x ↦ not_enough (inr (inr (inr (inr (lt-leb (length (named_in is).actions) r.actions x)))))
          ]
        ])

  -- enough rows in all tables
  module _ (lengths : size.instances ≤ r.lengths) (events : size.events ≤ r.events) (instances : length (named_in is).instances ≤ r.instances) (messages : length (named_in is).messages ≤ r.messages) (actions : length (named_in is).actions ≤ r.actions) where
    all_true : (a b c d e : Bool) → a ≡ true → b ≡ true → c ≡ true → d ≡ true → e ≡ true → ((a && b) && (c && (d && e))) ≡ true
    all_true a b c d e ea eb ec ed ee = ap (λ (x : Bool). (x && b) && (c && (d && e))) ea ∙ ap (λ (x : Bool). x && (c && (d && e))) eb ∙ ap (λ (x : Bool). x && (d && e)) ec ∙ ap (λ (x : Bool). x && e) ed ∙ ee

    has_enough : enough r is ≡ true
    has_enough =
        all_true (nat_le (length (lengths_in is)) r.lengths) (nat_le (length (rows_in is)) r.events) (nat_le (length (named_in is).instances) r.instances) (nat_le (length (named_in is).messages) r.messages) (nat_le (length (named_in is).actions) r.actions)
        (le-leb (length (lengths_in is)) r.lengths (let x = as_long in omega arith))
        (le-leb (length (rows_in is)) r.events (let x = as_many in omega arith))
        (le-leb (length (named_in is).instances) r.instances instances)
        (le-leb (length (named_in is).messages) r.messages messages)
        (le-leb (length (named_in is).actions) r.actions actions)

    after_rooms : refusal r is ≡ or_else (unknown_fault (first_unknown (named_in is).instances (all_events (instances_in is)))) (or_else (chart_fault (instances_in is) (checked (lengths_in is) (rows_in is))) None)
    after_rooms =
        ap (λ (b : Bool). or_else (unless b (at_byte ShortTable 0)) (or_else (unknown_fault (first_unknown (named_in is).instances (all_events (instances_in is)))) (or_else (chart_fault (instances_in is) (checked (lengths_in is) (rows_in is))) None))) has_enough

    same_unknown : first_unknown (named_in is).instances (all_events (instances_in is)) ≡ first_unknown (named_in is).instances (events_of is)
    same_unknown = ap (first_unknown (named_in is).instances) (bracketed_events is (whole_bracketed ss s.whole))

    -- a peer that is unknown
    pub refused_peer : (f : Fault) → IsUnknown (first_unknown (named_in is).instances (events_of is)) f → read_as r ss ≡ Err f
    refused_peer f u =
        refused_by f
        (after_rooms
        ∙ ap (λ (p : Option Placed). or_else (unknown_fault p) (or_else (chart_fault (instances_in is) (checked (lengths_in is) (rows_in is))) None)) (same_unknown ∙ u.1)
        ∙ ap Some (sym u.2))

    module _ (known : first_unknown (named_in is).instances (events_of is) ≡ None) where
      after_peers : refusal r is ≡ or_else (chart_fault (instances_in is) (checked (lengths_in is) (rows_in is))) None
      after_peers = after_rooms ∙ ap (λ (p : Option Placed). or_else (unknown_fault p) (or_else (chart_fault (instances_in is) (checked (lengths_in is) (rows_in is))) None)) (same_unknown ∙ known)

      same_fault : (o : Option ChartFault) → chart_fault (instances_in is) o ≡ fault_in is o
      same_fault None = refl
      same_fault (Some f) = ap Some (ap (at_byte _) (sym (start_same f.instance f.event is (whole_bracketed ss s.whole))))

      -- a rule that the chart breaks
      pub refused_chart : (f : Fault) → fault_in is (checked (lengths_in is) (rows_in is)) ≡ Some f → read_as r ss ≡ Err f
      refused_chart f x = refused_by f (after_peers ∙ ap (λ (o : Option Fault). or_else o None) (same_fault (checked (lengths_in is) (rows_in is)) ∙ x))

      -- none
      pub read_whole : checked (lengths_in is) (rows_in is) ≡ None → read_as r ss ≡ Ok (answer size (named_in is))
      read_whole x =
          ap (read_sized r is) surveys
          ∙ ap (λ (o : Option Fault). unless_fault o (answer size (named_in is))) (after_peers ∙ ap (λ (o : Option ChartFault). or_else (chart_fault (instances_in is) o) None) x)
