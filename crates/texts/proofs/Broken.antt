-- The rule that the chart of a text breaks, if any: a message has two events of a kind, or one has no match.
use Rattle.std.proofs.Common.{◌≡◌, ℕ, suc, ◌<◌, ◌≤◌, ◌⊎◌, Bool, true, false, cond, not, ◌&&◌, ◌||◌, ◌==◌, nat_le, nat_lt, List, [], ◌∷◌, ◌++◌, length, map, filter, fold, sum, Some, None, Option, inl, inr, refl, sym, ap, ◌∙◌, subst, le-leb, lt-ltb, eq-eqb, arith}
use Rattle.std.specs.Str.{bytes_eq}
use Rattle.std.proofs.lemmas.List.{length-map}
use Rattle.std.proofs.lemmas.Slice.Eq.{bytes_eq-Decides}
use Rattle.charts.specs.declared.parts.Event.{Event}
use Rattle.charts.specs.declared.kinds.Kind.{Kind}
use Rattle.charts.specs.declared.kinds.Kind.TheVariants.{Output, Input, Action}
use Rattle.charts.specs.declared.faults.Fault.{Fault as ChartFault}
use Rattle.charts.specs.Events.{event as event_with, environment, is_message}
use Rattle.charts.specs.Kinds.{code_of}
use Rattle.checks.specs.Choice.{unless, or_else}
use Rattle.checks.specs.Rules.{known_kind, known_peer, well_formed, not_repeated, has_match, matched, first_place}
use Rattle.checks.specs.Checked.{table_fault, blamed, scan, checked}
use Rattle.checks.proofs.Chosen.{none_unless, none_or_else}
use Rattle.checks.proofs.Joined.{sum_lengths}
use Rattle.words.specs.declared.faults.Cause.TheVariants.{Chart}
use Rattle.words.specs.Faults.{number_of}
use Rattle.words.specs.Sentences.{Placed, sentences}
use Rattle.sentences.specs.Wants.{among}
use Rattle.sentences.specs.Events.{EventWords}
use Rattle.items.specs.Items.{Item}
use Rattle.items.specs.Instances.{instances_in}
use Rattle.items.specs.Surveys.{names_in, items_in}
use Rattle.items.proofs.Passing.{among_push}
use Rattle.grammar.specs.Brackets.{bracketed, events_of}
use Rattle.grammar.specs.Charts.{chart_by}
use Rattle.grammar.proofs.Bracketing.{bracketed_events, instance_names}
use Rattle.texts.specs.Numbering.{added, place_of}
use Rattle.texts.specs.Directories.{Named, of_message, messages_in, actions_in, named_in}
use Rattle.texts.specs.Drafts.{peer_of, names_for, numbered, unknown_in, first_unknown}
use Rattle.texts.specs.Readings.{all_events, lengths_in, rows_in, broken}
use Rattle.texts.specs.Charted.{lists_of}
use Rattle.texts.specs.Whole.{Whole}
use Rattle.texts.proofs.Listed.{events_counted, names_few}
use Rattle.texts.proofs.Bracketed.{whole_bracketed, instances_once}
use Rattle.texts.proofs.Worded.{Each}
use Rattle.texts.proofs.Itemed.{Alone, GoodEvent, events_alone, good_items, events_good}
use Rattle.texts.proofs.Charting.{lengths_charted, rows_charted}
use Rattle.texts.proofs.Peered.{known_among, each_known}

-- a name keeps its place among those that come after it
still_among : (s : List Placed) (n : Placed) (q : List ℕ) → among s q ≡ true → among (added s n) q ≡ true
still_among s n q is = go (among s n.bytes)
  where
    go : (b : Bool) → among (cond b s (s ++ (n ∷ []))) q ≡ true
    go true = is
    go false = among_push s n q ∙ ap (λ (b : Bool). b || bytes_eq n.bytes q) is

among_added : (s : List Placed) (n : Placed) → among (added s n) n.bytes ≡ true
among_added s n = go (among s n.bytes) refl
  where
    itself : (b : Bool) → (b || true) ≡ true
    itself true = refl
    itself false = refl

    go : (b : Bool) → among s n.bytes ≡ b → among (cond b s (s ++ (n ∷ []))) n.bytes ≡ true
    go true is = is
    go false is = among_push s n n.bytes ∙ ap (λ (b : Bool). among s n.bytes || b) ((bytes_eq-Decides n.bytes n.bytes).1 refl) ∙ itself (among s n.bytes)

among_all : (s ns : List Placed) (q : List ℕ) → among s q ≡ true → among (fold added s ns) q ≡ true
among_all s [] q is = is
among_all s (n ∷ ns) q is = among_all (added s n) ns q (still_among s n q is)

each_among : (s ns : List Placed) → Each (λ n. among (fold added s ns) n.bytes ≡ true) ns
each_among s [] = tt
each_among s (n ∷ ns) = (among_all (added s n) ns n.bytes (among_added s n), each_among (added s n) ns)

-- what holds of the names of some events
filtered : (P : Placed → Type 0) (p : EventWords → Bool) (es : List EventWords) → Each P (map (λ e. e.name) (filter p es)) → Each (λ e. p e ≡ true → P e.name) es
filtered P p [] h = tt
filtered P p (e ∷ es) h = go (p e) refl (filtered P p es) h
  where
    go : (b : Bool) → p e ≡ b → (Each P (map (λ (x : EventWords). x.name) (filter p es)) → Each (λ e. p e ≡ true → P e.name) es) →
        Each P (map (λ (x : EventWords). x.name) (cond b (e ∷ filter p es) (filter p es))) → Each (λ e. p e ≡ true → P e.name) (e ∷ es)
    go true is more h = (λ one. h.0, more h.1)
    go false is more h = (λ one. let other = sym is ∙ one in cc, more h)

place_in_them : (ns : List Placed) (q : List ℕ) → among ns q ≡ true → place_of ns q < length ns
place_in_them [] q is = cc
place_in_them (n ∷ ns) q is = go (bytes_eq n.bytes q) is (place_in_them ns q)
  where
    go : (b : Bool) → (b || among ns q) ≡ true → (among ns q ≡ true → place_of ns q < length ns) → cond b 0 (suc (place_of ns q)) < suc (length ns)
    go true is more = omega arith
    go false is more = let m = more is in omega arith

-- events that are well formed
abbrev pub Formed : ℕ → Event → Type 0
Formed width e = (k : ℕ) → well_formed width k e ≡ None

formed_by : (width k : ℕ) (e : Event) → known_kind e ≡ true → known_peer width e ≡ true → nat_le e.number 4095 ≡ true → well_formed width k e ≡ None
formed_by width k e a b c =
    none_or_else (unless (known_kind e) 14) _ (none_unless (known_kind e) 14 a)
    ∙ none_or_else (unless (known_peer width e) 15) _ (none_unless (known_peer width e) 15 b)
    ∙ none_or_else (unless (nat_le e.number 4095) 16) None (none_unless (nat_le e.number 4095) 16 c)

module _ (s : Named) (few_messages : length s.messages ≤ 4096) (few_actions : length s.actions ≤ 4096) where
  row_formed : (x : EventWords) → Alone x → unknown_in s.instances x.peer ≡ None →
      (of_message x.kind ≡ true → among s.messages x.name.bytes ≡ true) → (not (of_message x.kind) ≡ true → among s.actions x.name.bytes ≡ true) →
      Formed (length s.instances) (numbered s x)
  row_formed x alone known m a k = formed_by (length s.instances) k (numbered s x) (kind x.kind) (peer x.kind refl x.peer refl) (number x.kind refl)
    where
      kind : (c : Kind) → (nat_le 1 (code_of c) && nat_le (code_of c) 3) ≡ true
      kind Output = refl
      kind Input = refl
      kind Action = refl

      within : (w : Placed) → x.peer ≡ Some w → nat_lt (place_of s.instances w.bytes) (length s.instances) ≡ true
      within w is = lt-ltb (place_of s.instances w.bytes) (length s.instances) (place_in_them s.instances w.bytes (known_among s.instances w (sym (ap (unknown_in s.instances) is) ∙ known)))

      either : (b c : Bool) → c ≡ true → (b || c) ≡ true
      either true c is = refl
      either false c is = is

      peer : (c : Kind) → x.kind ≡ c → (o : Option Placed) → x.peer ≡ o →
          ((peer_of s.instances o == environment) || (is_message (event_with (code_of c) (peer_of s.instances o) 0) && nat_lt (peer_of s.instances o) (length s.instances))) ≡ true
      peer c is None none = refl
      peer Output is (Some w) one = either (peer_of s.instances (Some w) == environment) _ (within w one)
      peer Input is (Some w) one = either (peer_of s.instances (Some w) == environment) _ (within w one)
      peer Action is (Some w) one = let none = sym (alone is) ∙ one in cc

      number : (c : Kind) → x.kind ≡ c → nat_le (place_of (names_for s c) x.name.bytes) 4095 ≡ true
      number Output is = le-leb (place_of s.messages x.name.bytes) 4095 (let l = place_in_them s.messages x.name.bytes (m (ap of_message is)) in omega arith)
      number Input is = le-leb (place_of s.messages x.name.bytes) 4095 (let l = place_in_them s.messages x.name.bytes (m (ap of_message is)) in omega arith)
      number Action is = le-leb (place_of s.actions x.name.bytes) 4095 (let l = place_in_them s.actions x.name.bytes (a (ap (λ (c : Kind). not (of_message c)) is)) in omega arith)

  rows_formed : (es : List EventWords) → Each Alone es → Each (λ e. unknown_in s.instances e.peer ≡ None) es → Each (λ e. of_message e.kind ≡ true → among s.messages e.name.bytes ≡ true) es →
      Each (λ e. not (of_message e.kind) ≡ true → among s.actions e.name.bytes ≡ true) es → Each (Formed (length s.instances)) (map (numbered s) es)
  rows_formed [] h i j k = tt
  rows_formed (e ∷ es) h i j k = (row_formed e h.0 i.0 j.0 k.0, rows_formed es h.1 i.1 j.1 k.1)

-- a scan that finds nothing, and one whose rule has one number
module _ (ns : List ℕ) where
  formed_scan : (width k : ℕ) (es : List Event) → Each (Formed width) es → scan (well_formed width) ns k es ≡ None
  formed_scan width k [] h = refl
  formed_scan width k (e ∷ es) h = ap (λ (o : Option ℕ). or_else (blamed ns k o) (scan (well_formed width) ns (suc k) es)) (h.0 k) ∙ formed_scan width (suc k) es h.1

  scan_number : (rule : ℕ → Event → Option ℕ) (m : ℕ) → ((k : ℕ) (e : Event) (n : ℕ) → rule k e ≡ Some n → n ≡ m) →
      (k : ℕ) (es : List Event) (f : ChartFault) → scan rule ns k es ≡ Some f → f.number ≡ m
  scan_number rule m one k [] f h = cc
  scan_number rule m one k (e ∷ es) f h = go (rule k e) refl (scan_number rule m one (suc k) es f) h
    where
      go : (o : Option ℕ) → rule k e ≡ o → (scan rule ns (suc k) es ≡ Some f → f.number ≡ m) → or_else (blamed ns k o) (scan rule ns (suc k) es) ≡ Some f → f.number ≡ m
      go None is more h = more h
      go (Some n) is more h = let same : n ≡ f.number = cc in sym same ∙ one k e n is

unless_number : (b : Bool) (m n : ℕ) → unless b m ≡ Some n → n ≡ m
unless_number true m n h = cc
unless_number false m n h = cc

-- where the lengths, the events and their sum are as they should be, and the events are well formed
found_number : (ns : List ℕ) (es : List Event) → length ns ≤ 32 → length es ≤ 4096 → sum ns ≡ length es → Each (Formed (length ns)) es →
    (f : ChartFault) → checked ns es ≡ Some f → (f.number ≡ 17) ⊎ (f.number ≡ 18)
found_number ns es wide long even formed f h = go (scan (not_repeated es) ns 0 es) refl (sym first ∙ h)
  where
    first : checked ns es ≡ or_else (scan (not_repeated es) ns 0 es) (or_else (scan (matched ns es) ns 0 es) None)
    first =
        none_or_else (unless (nat_le (length ns) 32) (table_fault 11 0 0)) _ (none_unless (nat_le (length ns) 32) _ (le-leb (length ns) 32 wide))
        ∙ none_or_else (unless (nat_le (length es) 4096) (table_fault 12 0 0)) _ (none_unless (nat_le (length es) 4096) _ (le-leb (length es) 4096 long))
        ∙ none_or_else (unless (sum ns == length es) (table_fault 13 0 0)) _ (none_unless (sum ns == length es) _ (eq-eqb (sum ns) (length es) even))
        ∙ none_or_else (scan (well_formed (length ns)) ns 0 es) _ (formed_scan ns (length ns) 0 es formed)

    last : (o : Option ChartFault) → scan (matched ns es) ns 0 es ≡ o → or_else o None ≡ Some f → (f.number ≡ 17) ⊎ (f.number ≡ 18)
    last None is h = cc
    last (Some g) is h = inr (scan_number ns (matched ns es) 18 (λ k e n m. unless_number (not (is_message e) || has_match ns es k e) 18 n m) 0 es f (is ∙ h))

    go : (o : Option ChartFault) → scan (not_repeated es) ns 0 es ≡ o → or_else o (or_else (scan (matched ns es) ns 0 es) None) ≡ Some f → (f.number ≡ 17) ⊎ (f.number ≡ 18)
    go None is h = last (scan (matched ns es) ns 0 es) refl h
    go (Some g) is h = inl (scan_number ns (not_repeated es) 17 (λ k e n m. unless_number (not (is_message e) || nat_le k (first_place e.kind e.number es)) 17 n m) 0 es f (is ∙ h))

-- the number of the rule is that of the fault
broken_same : (n : ℕ) → (n ≡ 17) ⊎ (n ≡ 18) → number_of (Chart (broken n)) ≡ n
broken_same n (inl is) = subst (λ (k : ℕ). number_of (Chart (broken k)) ≡ k) (sym is) refl
broken_same n (inr is) = subst (λ (k : ℕ). number_of (Chart (broken k)) ≡ k) (sym is) refl

module _ (text : List ℕ) (w : Whole (sentences text)) where
  abbrev is : List Item
  is = items_in (sentences text)

  abbrev b : bracketed false is ≡ true
  b = whole_bracketed (sentences text) w

  good : Each (GoodEvent text) (events_of is)
  good = events_good text is (good_items text)

  -- the rule that a text's chart breaks, if its peers are known
  pub text_fault : first_unknown (named_in is).instances (all_events (instances_in is)) ≡ None → (f : ChartFault) → checked (lengths_in is) (rows_in is) ≡ Some f → (f.number ≡ 17) ⊎ (f.number ≡ 18)
  text_fault known =
      let few = names_few is w.few_instances w.few_events in
      let wide : length (lengths_in is) ≡ length (names_in is) = length-map (instances_in is) _ ∙ sym (length-map (instances_in is) (λ n. n.name)) ∙ ap length (instance_names is) in
      let long : length (rows_in is) ≡ length (events_of is) = length-map (all_events (instances_in is)) _ ∙ ap length (bracketed_events is b) in
      let counted = events_counted is in
      let named : length (named_in is).instances ≡ length (lengths_in is) = ap length (instances_once is w.once) ∙ sym wide in
      let even : sum (lengths_in is) ≡ length (rows_in is) =
      ap sum (lengths_charted w.title is b w.once) ∙ sum_lengths (lists_of (chart_by w.title is)) ∙ ap length (sym (rows_charted w.title is b w.once text good)) in
      let all = bracketed_events is b in
      let formed : Each (Formed (length (named_in is).instances)) (rows_in is) =
      subst (λ (es : List EventWords). Each (Formed (length (named_in is).instances)) (map (numbered (named_in is)) es)) (sym all)
      (rows_formed (named_in is) few.messages few.actions (events_of is) (events_alone text (events_of is) good)
      (subst (Each (λ e. unknown_in (named_in is).instances e.peer ≡ None)) all (each_known (named_in is).instances (all_events (instances_in is)) known))
      (filtered (λ n. among (named_in is).messages n.bytes ≡ true) (λ e. of_message e.kind) (events_of is) (each_among [] (messages_in (events_of is))))
      (filtered (λ n. among (named_in is).actions n.bytes ≡ true) (λ e. not (of_message e.kind)) (events_of is) (each_among [] (actions_in (events_of is))))) in
      let wi = w.few_instances in
      let we = w.few_events in
      found_number (lengths_in is) (rows_in is) (omega arith) (omega arith) even (subst (λ (n : ℕ). Each (Formed n) (rows_in is)) named formed)

  -- and so the number of the rule is that of the fault
  pub fault_number : first_unknown (named_in is).instances (all_events (instances_in is)) ≡ None → (f : ChartFault) → checked (lengths_in is) (rows_in is) ≡ Some f → number_of (Chart (broken f.number)) ≡ f.number
  fault_number known f h = broken_same f.number (text_fault known f h)
