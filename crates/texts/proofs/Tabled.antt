-- The tables of a text that was read to its end.
use Rattle.std.proofs.Common.{◌≡◌, ℕ, ◌≤◌, List, length, map, take, Some, None, Ok, Err, Result, sym, ap, ◌∙◌, subst, arith}
use Rattle.std.proofs.lemmas.List.{length-map}
use Rattle.charts.specs.declared.parts.Event.{Event}
use Rattle.charts.specs.Events.{no_event}
use Rattle.checks.specs.Checked.{checked}
use Rattle.words.specs.declared.faults.Fault.{Fault}
use Rattle.words.specs.Sentences.{Placed, Sentence}
use Rattle.names.specs.Numbers.{Numbers}
use Rattle.items.specs.Surveys.{Size, items_in, surveyed}
use Rattle.grammar.specs.Brackets.{events_of}
use Rattle.texts.specs.declared.rows.Name.{Name}
use Rattle.texts.specs.declared.directory.Directory.{Directory}
use Rattle.texts.specs.declared.reading.Reading.{Reading}
use Rattle.texts.specs.Refusing.{ReadsOrRefuses}
use Rattle.texts.specs.Rows.{padded, no_name, row_of}
use Rattle.texts.specs.Noting.{Lists}
use Rattle.texts.specs.Directories.{Named, Holds, named_in}
use Rattle.texts.specs.Drafts.{first_unknown}
use Rattle.texts.specs.Resolving.{IsUnknown}
use Rattle.texts.specs.Filled.{Fills}
use Rattle.texts.specs.Checking.{fault_in}
use Rattle.texts.specs.Readings.{Rooms, Tables, tables, lengths_in, rows_in, tables_of, answer, read_as}
use Rattle.texts.proofs.Padding.{padded_few, take_rows}
use Rattle.texts.proofs.Sized.{Sized}
use Rattle.texts.proofs.Bracketed.{whole_bracketed, lengths_same, rows_same}
use Rattle.texts.proofs.Answering.{as_long, as_many, refused_peer, refused_chart, read_whole}

-- names have as many rows as they are
names_fit : (numbers : Numbers) (table : List Name) (ns : List Placed) (room : ℕ) → Lists numbers table ns → length table ≡ room → length ns ≤ room
names_fit numbers table ns room l e = let f = padded_few no_name table (map row_of ns) l.rows in let m = length-map ns row_of in omega arith

module _ (ss : List Sentence) (size : Size) (surveys : surveyed ss ≡ Ok size) (s : Sized ss size) (r : Rooms) (d : Directory) (i m a : List Name) (holds : Holds d i m a (named_in (items_in ss))) (li : length i ≡ r.instances)
    (lm : length m ≡ r.messages) (la : length a ≡ r.actions) (few_lengths : size.instances ≤ r.lengths) (few_events : size.events ≤ r.events) where
  -- an unknown peer
  pub peer_refused : (f : Fault) → IsUnknown (first_unknown (named_in (items_in ss)).instances (events_of (items_in ss))) f → read_as r ss ≡ Err f
  peer_refused f u =
      refused_peer ss size surveys s r few_lengths few_events (names_fit _ i _ _ holds.instances li) (names_fit _ m _ _ holds.messages lm) (names_fit _ a _ _ holds.actions la) f u

  module _ (lengths : List ℕ) (events : List Event) (fills : Fills (named_in (items_in ss)) (items_in ss) r.lengths r.events (Ok tt) lengths events) where
    lengths_are : lengths ≡ padded 0 r.lengths (lengths_in (items_in ss))
    lengths_are = fills.1 ∙ ap (padded 0 r.lengths) (lengths_same (items_in ss) (whole_bracketed ss s.whole))

    events_are : events ≡ padded no_event r.events (rows_in (items_in ss))
    events_are = fills.2 ∙ ap (padded no_event r.events) (rows_same (items_in ss) (whole_bracketed ss s.whole))

    pub lengths_taken : take size.instances lengths ≡ lengths_in (items_in ss)
    lengths_taken = take_rows 0 r.lengths size.instances (lengths_in (items_in ss)) lengths lengths_are (sym (as_long ss size surveys s r))

    pub events_taken : take size.events events ≡ rows_in (items_in ss)
    events_taken = take_rows no_event r.events size.events (rows_in (items_in ss)) events events_are (sym (as_many ss size surveys s r))

    same_checks : checked (take size.instances lengths) (take size.events events) ≡ checked (lengths_in (items_in ss)) (rows_in (items_in ss))
    same_checks = ap (λ (ns : List ℕ). checked ns (take size.events events)) lengths_taken ∙ ap (checked (lengths_in (items_in ss))) events_taken

    -- a rule that the chart breaks
    pub chart_refused : (f : Fault) → fault_in (items_in ss) (checked (take size.instances lengths) (take size.events events)) ≡ Some f → read_as r ss ≡ Err f
    chart_refused f is =
        refused_chart ss size surveys s r few_lengths few_events (names_fit _ i _ _ holds.instances li) (names_fit _ m _ _ holds.messages lm) (names_fit _ a _ _ holds.actions la) fills.0 f
        (sym (ap (fault_in (items_in ss)) same_checks) ∙ is)

    -- none
    pub answered : checked (take size.instances lengths) (take size.events events) ≡ None → read_as r ss ≡ Ok (answer size (named_in (items_in ss)))
    answered is =
        read_whole ss size surveys s r few_lengths few_events (names_fit _ i _ _ holds.instances li) (names_fit _ m _ _ holds.messages lm) (names_fit _ a _ _ holds.actions la) fills.0 (sym same_checks ∙ is)

    rows_are : (numbers : Numbers) (table : List Name) (ns : List Placed) (room : ℕ) → Lists numbers table ns → length table ≡ room → table ≡ padded no_name room (map row_of ns)
    rows_are numbers table ns room l e = l.rows ∙ ap (λ (k : ℕ). padded no_name k (map row_of ns)) e

    pub tables_are : tables lengths events i m a ≡ tables_of r (items_in ss)
    tables_are =
        ap (λ (x : List ℕ). tables x events i m a) lengths_are
        ∙ ap (λ (x : List Event). tables (tables_of r (items_in ss)).lengths x i m a) events_are
        ∙ ap (λ (x : List Name). tables (tables_of r (items_in ss)).lengths (tables_of r (items_in ss)).events x m a) (rows_are _ i _ _ holds.instances li)
        ∙ ap (λ (x : List Name). tables (tables_of r (items_in ss)).lengths (tables_of r (items_in ss)).events (tables_of r (items_in ss)).instances x a) (rows_are _ m _ _ holds.messages lm)
        ∙ ap (λ (x : List Name). tables (tables_of r (items_in ss)).lengths (tables_of r (items_in ss)).events (tables_of r (items_in ss)).instances (tables_of r (items_in ss)).messages x) (rows_are _ a _ _ holds.actions la)

-- what is answered of a refusal is answered where it is handed up
pub refuses_by : (ss : List Sentence) (r : Rooms) (t : Tables) (f : Fault) (result : Result Reading Fault) → result ≡ Err f → read_as r ss ≡ Err f → ReadsOrRefuses ss r result t
refuses_by ss r t f result is says = subst (λ (x : Result Reading Fault). ReadsOrRefuses ss r x t) (sym is) says

-- the answer by its numbers
pub answer_by : (size : Size) (s : Named) (messages actions : ℕ) → length s.messages ≡ messages → length s.actions ≡ actions →
    answer size s ≡ record { title = size.title; instances = size.instances; events = size.events; messages = messages; actions = actions }
answer_by size s messages actions m a =
    ap (λ (n : ℕ). record { title = size.title; instances = size.instances; events = size.events; messages = n; actions = length s.actions }) m
    ∙ ap (λ (n : ℕ). record { title = size.title; instances = size.instances; events = size.events; messages = messages; actions = n }) a
