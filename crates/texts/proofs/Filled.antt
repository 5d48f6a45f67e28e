-- Filling the tables of a chart item by item.
use Rattle.std.proofs.Common.{◌≡◌, ℕ, suc, ◌+◌, ◌<◌, ◌≤◌, Bool, true, false, cond, List, [], ◌∷◌, ◌++◌, length, map, replicate, Some, None, Option, Ok, Err, Result, IfSome, ◌||◌, refl, sym, ap, ◌∙◌, subst, arith}
use Rattle.std.specs.Str.{bytes_eq}
use Rattle.std.proofs.lemmas.List.{length-append, length-map, append-nil}
use Rattle.charts.specs.declared.parts.Event.{Event}
use Rattle.charts.specs.Events.{no_event}
use Rattle.checks.specs.Choice.{or_else}
use Rattle.words.specs.declared.faults.Fault.{Fault}
use Rattle.words.specs.Sentences.{Placed, Sentence}
use Rattle.words.specs.Reading.{others}
use Rattle.sentences.specs.Wants.{among}
use Rattle.sentences.specs.Events.{event_words}
use Rattle.names.specs.Numbers.{Numbers}
use Rattle.items.specs.Items.{Item, Items, items_from}
use Rattle.items.specs.Parsing.{BeginsWithItem}
use Rattle.items.specs.Surveys.{items_in, is_end}
use Rattle.items.specs.declared.parts.Item.{Item as Read}
use Rattle.items.specs.declared.parts.Item.TheVariants.{Instance, Event as EventRead, InstanceEnd, End}
use Rattle.texts.specs.declared.filling.Filling.{Filling}
use Rattle.texts.specs.Rows.{padded}
use Rattle.texts.specs.Numbering.{place_of}
use Rattle.texts.specs.Noting.{Indexes}
use Rattle.grammar.specs.Brackets.{events_of}
use Rattle.texts.specs.Directories.{Named}
use Rattle.texts.specs.Drafts.{Draft, Written, HasRow, no_draft, numbered, first_unknown, lengths_from, with_read, unknown_by}
use Rattle.texts.specs.Resolving.{AreBytes, IsUnknown}
use Rattle.texts.specs.Filled.{Fills}
use Rattle.texts.specs.Whole.{Whole}
use Rattle.texts.proofs.Padding.{padded_by}
use Rattle.texts.proofs.Listed.{titled, ends_after, none_left, events_counted}

place_within : (ns : List Placed) (q : List ℕ) → among ns q ≡ true → place_of ns q < length ns
place_within [] q is = cc
place_within (n ∷ ns) q is = go (bytes_eq n.bytes q) is (place_within ns q)
  where
    go : (b : Bool) → (b || among ns q) ≡ true → (among ns q ≡ true → place_of ns q < length ns) → cond b 0 (suc (place_of ns q)) < suc (length ns)
    go true is more = omega arith
    go false is more = let m = more is in omega arith

-- the numbers of so few names are bytes
pub are_bytes : (numbers : Numbers) (ns : List Placed) → Indexes numbers ns → length ns ≤ 32 → AreBytes numbers
are_bytes numbers ns x few = λ q. subst (λ (o : Option ℕ). IfSome o (λ n. n < 256)) (sym (x.known q)) (go q (among ns q) refl)
  where
    go : (q : List ℕ) (b : Bool) → among ns q ≡ b → IfSome (cond (among ns q) (Some (place_of ns q)) None) (λ n. n < 256)
    go q true is = subst (λ (b : Bool). IfSome (cond b (Some (place_of ns q)) None) (λ n. n < 256)) (sym is) (let l = place_within ns q is in omega arith)
    go q false is = subst (λ (b : Bool). IfSome (cond b (Some (place_of ns q)) None) (λ n. n < 256)) (sym is) _

module _ {T : Type 0} where
  one_of : (xs ys : List T) (x : T) → (xs ++ (x ∷ [])) ++ ys ≡ xs ++ (x ∷ ys)
  one_of [] ys x = refl
  one_of (z ∷ xs) ys x = ap (λ (zs : List T). z ∷ zs) (one_of xs ys x)

-- some items were read, and the tables are of them
pub record Drafting (s : Named) (is : List Item) (left : Items) (f : Filling) (lengths : List ℕ) (events : List Event) (nl ne : ℕ) : Type 0 where
  pub ends : left.outcome ≡ Ok tt
  pub draft : Draft
  pub written : Written f lengths events draft
  pub length_room : length lengths ≡ nl
  pub event_room : length events ≡ ne
  pub lengths_same : draft.lengths ++ lengths_from draft.count left.items ≡ lengths_from 0 is
  pub events_same : draft.events ++ map (numbered s) (events_of left.items) ≡ map (numbered s) (events_of is)
  pub unknown_same : first_unknown s.instances (events_of left.items) ≡ first_unknown s.instances (events_of is)
  pub few : draft.count + length (events_of left.items) ≤ 4096

-- none was read
pub drafting_none : (s : Named) (ss : List Sentence) (left : Items) (f : Filling) (lengths : List ℕ) (events : List Event) → Whole ss → left ≡ items_from false (others ss) →
    lengths ≡ replicate (length lengths) 0 → events ≡ replicate (length events) no_event → f ≡ record { instances = 0; count = 0; events = 0 } →
    Drafting s (items_in ss) left f lengths events (length lengths) (length events)
drafting_none s ss left f lengths events w is zl ze zf =
    let same : left.items ≡ items_in ss = ap (λ (x : Items). x.items) is ∙ sym (titled ss w) in
    record {
      ends = ap (λ (x : Items). x.outcome) is ∙ w.ends;
      draft = no_draft;
      written = record {
        instances = ap (λ (x : Filling). x.instances) zf;
        count = ap (λ (x : Filling). x.count) zf;
        number = ap (λ (x : Filling). x.events) zf;
        lengths_are = zl ∙ sym (padded_by 0 (length lengths) (length lengths) [] (let k : length lengths ≡ 0 + length lengths = omega arith in k));
        events_are = ze ∙ sym (padded_by no_event (length events) (length events) [] (let k : length events ≡ 0 + length events = omega arith in k));
      };
      length_room = refl;
      event_room = refl;
      lengths_same = ap (lengths_from 0) same;
      events_same = ap (λ (xs : List Item). map (numbered s) (events_of xs)) same;
      unknown_same = ap (λ (xs : List Item). first_unknown s.instances (events_of xs)) same;
      few = let e = w.few_events in let c = events_counted (items_in ss) in let l = ap (λ (xs : List Item). length (events_of xs)) same in omega arith;
    }

module _ (s : Named) (is : List Item) (before after : Items) (f : Filling) (lengths : List ℕ) (events : List Event) (nl ne : ℕ) (d : Drafting s is before f lengths events nl ne) (item : Read) (begins : BeginsWithItem before item after) where
  -- there is a row for it
  pub drafting_row : length (lengths_from 0 is) ≤ nl → length (events_of is) ≤ ne → HasRow f (length lengths) (length events) item
  drafting_row rl re = go item begins
    where
      go : (i : Read) → BeginsWithItem before i after → HasRow f (length lengths) (length events) i
      go (Instance w) b = _
      go (EventRead e) b =
          let same = d.events_same in
          let all = ap length same in
          let a = length-append d.draft.events (map (numbered s) (events_of before.items)) in
          let m = length-map (events_of before.items) (numbered s) in
          let n = length-map (events_of is) (numbered s) in
          let one = ap (λ (x : Items). length (events_of x.items)) b in
          let number = d.written.number in
          let count = d.written.count in
          let few = d.few in
          let room = d.event_room in
          (omega arith, omega arith)
      go InstanceEnd b =
          let all = ap length d.lengths_same in
          let a = length-append d.draft.lengths (lengths_from d.draft.count before.items) in
          let one = ap (λ (x : Items). length (lengths_from d.draft.count x.items)) b in
          let number = d.written.instances in
          let room = d.length_room in
          omega arith
      go End b = _

  -- one item more, whose peer is known
  pub drafting_more : is_end item ≡ false → unknown_by s.instances item ≡ None → (g : Filling) (ms : List ℕ) (es : List Event) → Written g ms es (with_read s d.draft item) →
      length ms ≡ length lengths → length es ≡ length events → Drafting s is after g ms es nl ne
  drafting_more other known g ms es w lm le =
      let same = more item begins other known in
      record {
        ends = ends_after before after item begins d.ends;
        draft = with_read s d.draft item;
        written = w;
        length_room = lm ∙ d.length_room;
        event_room = le ∙ d.event_room;
        lengths_same = same.0;
        events_same = same.1;
        unknown_same = same.2;
        few = same.3;
      }
    where
      more : (i : Read) → BeginsWithItem before i after → is_end i ≡ false → unknown_by s.instances i ≡ None →
          ((with_read s d.draft i).lengths ++ lengths_from (with_read s d.draft i).count after.items ≡ lengths_from 0 is)
          × ((with_read s d.draft i).events ++ map (numbered s) (events_of after.items) ≡ map (numbered s) (events_of is))
          × (first_unknown s.instances (events_of after.items) ≡ first_unknown s.instances (events_of is))
          × ((with_read s d.draft i).count + length (events_of after.items) ≤ 4096)
      more (Instance w) b other known = (
        sym (ap (λ (x : Items). d.draft.lengths ++ lengths_from d.draft.count x.items) b) ∙ d.lengths_same,
        sym (ap (λ (x : Items). d.draft.events ++ map (numbered s) (events_of x.items)) b) ∙ d.events_same,
        sym (ap (λ (x : Items). first_unknown s.instances (events_of x.items)) b) ∙ d.unknown_same,
        let l = ap (λ (x : Items). length (events_of x.items)) b in let few = d.few in omega arith,
      )
      more (EventRead e) b other known = (
        sym (ap (λ (x : Items). d.draft.lengths ++ lengths_from d.draft.count x.items) b) ∙ d.lengths_same,
        one_of d.draft.events (map (numbered s) (events_of after.items)) (numbered s (event_words e)) ∙ sym (ap (λ (x : Items). d.draft.events ++ map (numbered s) (events_of x.items)) b) ∙ d.events_same,
        sym (ap (λ (o : Option Placed). or_else o (first_unknown s.instances (events_of after.items))) known)
            ∙ sym (ap (λ (x : Items). first_unknown s.instances (events_of x.items)) b) ∙ d.unknown_same,
        let l = ap (λ (x : Items). length (events_of x.items)) b in let few = d.few in omega arith,
      )
      more InstanceEnd b other known = (
        one_of d.draft.lengths (lengths_from 0 after.items) d.draft.count ∙ sym (ap (λ (x : Items). d.draft.lengths ++ lengths_from d.draft.count x.items) b) ∙ d.lengths_same,
        sym (ap (λ (x : Items). d.draft.events ++ map (numbered s) (events_of x.items)) b) ∙ d.events_same,
        sym (ap (λ (x : Items). first_unknown s.instances (events_of x.items)) b) ∙ d.unknown_same,
        let l = ap (λ (x : Items). length (events_of x.items)) b in let few = d.few in omega arith,
      )
      more End b other known = cc

  -- a peer that is unknown is the first one
  pub drafting_unknown : (e : Fault) → IsUnknown (unknown_by s.instances item) e → IsUnknown (first_unknown s.instances (events_of is)) e
  drafting_unknown e u = (u.0, found item begins u.1, u.2)
    where
      found : (i : Read) → BeginsWithItem before i after → unknown_by s.instances i ≡ Some u.0 → first_unknown s.instances (events_of is) ≡ Some u.0
      found (Instance w) b un = cc
      found (EventRead x) b un =
          sym d.unknown_same ∙ ap (λ (y : Items). first_unknown s.instances (events_of y.items)) b ∙ ap (λ (o : Option Placed). or_else o (first_unknown s.instances (events_of after.items))) un
      found InstanceEnd b un = cc
      found End b un = cc

  -- all were read
  pub drafting_end : is_end item ≡ true → Fills s is nl ne (Ok tt) lengths events
  drafting_end end =
      let none = none_left before after item begins end in
      let ls : d.draft.lengths ≡ lengths_from 0 is = sym (append-nil d.draft.lengths) ∙ sym (ap (λ (xs : List Item). d.draft.lengths ++ lengths_from d.draft.count xs) none) ∙ d.lengths_same in
      let es : d.draft.events ≡ map (numbered s) (events_of is) = sym (append-nil d.draft.events) ∙ sym (ap (λ (xs : List Item). d.draft.events ++ map (numbered s) (events_of xs)) none) ∙ d.events_same in (
        sym d.unknown_same ∙ ap (λ (xs : List Item). first_unknown s.instances (events_of xs)) none,
        d.written.lengths_are ∙ ap (λ (k : ℕ). padded 0 k d.draft.lengths) d.length_room ∙ ap (padded 0 nl) ls,
        d.written.events_are ∙ ap (λ (k : ℕ). padded no_event k d.draft.events) d.event_room ∙ ap (padded no_event ne) es,
      )

-- what is answered of a refusal is answered where it is handed up
pub fills_by : (s : Named) (is : List Item) (nl ne : ℕ) (lengths : List ℕ) (events : List Event) (e : Fault) (r : Result (Unit {0}) Fault) → r ≡ Err e → IsUnknown (first_unknown s.instances (events_of is)) e → Fills s is nl ne r lengths events
fills_by s is nl ne lengths events e r same u = subst (λ (x : Result (Unit {0}) Fault). Fills s is nl ne x lengths events) (sym same) u
