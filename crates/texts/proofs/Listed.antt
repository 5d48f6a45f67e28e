-- Listing the names of a text item by item.
use Rattle.std.proofs.Common.{◌≡◌, ℕ, suc, ◌+◌, ◌≤◌, Bool, true, false, cond, not, List, [], ◌∷◌, ◌++◌, length, map, filter, fold, replicate, Ok, Err, Result, refl, sym, ap, ◌∙◌, subst, inl, inr, arith}
use Rattle.std.proofs.lemmas.List.{length-append, length-map}
use Rattle.charts.specs.declared.kinds.Kind.{Kind}
use Rattle.charts.specs.declared.kinds.Kind.TheVariants.{Output, Input, Action}
use Rattle.words.specs.declared.faults.Fault.{Fault}
use Rattle.words.specs.Sentences.{Placed, Sentence}
use Rattle.words.specs.Reading.{others}
use Rattle.words.specs.declared.faults.Cause.TheVariants.{ShortTable}
use Rattle.sentences.specs.Wants.{among, at_byte}
use Rattle.sentences.specs.Events.{EventWords, event_words}
use Rattle.items.specs.Items.{Item, Items, instance_named, event, instance_ends, refused, items_from}
use Rattle.items.specs.Parsing.{BeginsWithItem}
use Rattle.items.specs.Surveys.{names_in, events_in, items_in, items_if, is_end}
use Rattle.items.specs.declared.parts.Item.{Item as Read}
use Rattle.items.specs.declared.parts.Item.TheVariants.{Instance, Event, InstanceEnd, End}
use Rattle.texts.specs.declared.rows.Name.{Name}
use Rattle.texts.specs.declared.directory.Directory.{Directory}
use Rattle.texts.specs.Rows.{no_name}
use Rattle.texts.specs.Numbering.{added}
use Rattle.texts.specs.Noting.{Lists}
use Rattle.grammar.specs.Brackets.{events_of}
use Rattle.texts.specs.Directories.{Named, Holds, Few, TooShort, none_named, with_named, with_event, named_in, messages_in, actions_in, of_message}
use Rattle.texts.specs.Whole.{Whole}
use Rattle.texts.specs.Listing.{ListsNames}

-- a name more or less
added_longer : (ns : List Placed) (n : Placed) → length ns ≤ length (added ns n)
added_longer ns n = go (among ns n.bytes)
  where
    go : (b : Bool) → length ns ≤ length (cond b ns (ns ++ (n ∷ [])))
    go true = omega arith
    go false = let a = length-append ns (n ∷ []) in omega arith

added_few : (ns : List Placed) (n : Placed) → length (added ns n) ≤ length ns + 1
added_few ns n = go (among ns n.bytes)
  where
    go : (b : Bool) → length (cond b ns (ns ++ (n ∷ []))) ≤ length ns + 1
    go true = omega arith
    go false = let a = length-append ns (n ∷ []) in omega arith

pub longer : (s ns : List Placed) → length s ≤ length (fold added s ns)
longer s [] = omega arith
longer s (n ∷ ns) = let a = added_longer s n in let b = longer (added s n) ns in omega arith

pub few_added : (s ns : List Placed) → length (fold added s ns) ≤ length s + length ns
few_added s [] = omega arith
few_added s (n ∷ ns) = let a = added_few s n in let b = few_added (added s n) ns in omega arith

filter_few : (p : EventWords → Bool) (es : List EventWords) → length (filter p es) ≤ length es
filter_few p [] = omega arith
filter_few p (e ∷ es) = go (p e) (filter_few p es)
  where
    go : (b : Bool) → length (filter p es) ≤ length es → length (cond b (e ∷ filter p es) (filter p es)) ≤ suc (length es)
    go true few = omega arith
    go false few = omega arith

pub events_counted : (is : List Item) → events_in is ≡ length (events_of is)
events_counted [] = refl
events_counted (instance_named n ∷ is) = events_counted is
events_counted (event e ∷ is) = ap suc (events_counted is)
events_counted (instance_ends ∷ is) = events_counted is

-- the names of a whole text are few
pub names_few : (is : List Item) → length (names_in is) ≤ 32 → events_in is ≤ 4096 → Few (named_in is)
names_few is i e =
    let n = events_counted is in
    record {
      instances = let a = few_added [] (names_in is) in omega arith;
      messages =
          let a = few_added [] (messages_in (events_of is)) in
          let f = filter_few (λ x. of_message x.kind) (events_of is) in
          let m = length-map (filter (λ x. of_message x.kind) (events_of is)) (λ x. x.name) in
          omega arith;
      actions =
          let a = few_added [] (actions_in (events_of is)) in
          let f = filter_few (λ x. not (of_message x.kind)) (events_of is) in
          let m = length-map (filter (λ x. not (of_message x.kind)) (events_of is)) (λ x. x.name) in
          omega arith;
    }

-- the names s and then those of the items
abbrev pub with_all : Named → List Item → Named
with_all s is = record { instances = fold added s.instances (names_in is); messages = fold added s.messages (messages_in (events_of is)); actions = fold added s.actions (actions_in (events_of is)) }

with_words : (s : Named) (x : EventWords) (is : List Item) → with_all s (event x ∷ is) ≡ with_all (with_event x.kind s x.name) is
with_words s x is = go x.kind
  where
    messages : List EventWords
    messages = filter (λ e. of_message e.kind) (events_of is)

    others : List EventWords
    others = filter (λ e. not (of_message e.kind)) (events_of is)

    go : (k : Kind) →
        (record {
          instances = fold added s.instances (names_in is);
          messages = fold added s.messages (map (λ (e : EventWords). e.name) (cond (of_message k) (x ∷ messages) messages));
          actions = fold added s.actions (map (λ (e : EventWords). e.name) (cond (not (of_message k)) (x ∷ others) others));
        }) ≡ with_all (with_event k s x.name) is
    go Output = refl
    go Input = refl
    go Action = refl

-- what is left to name, after an item
with_one : (s : Named) (before after : Items) (item : Read) → BeginsWithItem before item after → is_end item ≡ false → with_all s before.items ≡ with_all (with_named s item) after.items
with_one s before after (Instance w) is other = ap (λ (x : Items). with_all s x.items) is
with_one s before after (Event e) is other = ap (λ (x : Items). with_all s x.items) is ∙ with_words s (event_words e) after.items
with_one s before after InstanceEnd is other = ap (λ (x : Items). with_all s x.items) is
with_one s before after End is other = cc

-- the text does not end in a fault, and then the rest does not either
pub ends_after : (before after : Items) (item : Read) → BeginsWithItem before item after → before.outcome ≡ Ok tt → after.outcome ≡ Ok tt
ends_after before after (Instance w) is ends = sym (ap (λ (x : Items). x.outcome) is) ∙ ends
ends_after before after (Event e) is ends = sym (ap (λ (x : Items). x.outcome) is) ∙ ends
ends_after before after InstanceEnd is ends = sym (ap (λ (x : Items). x.outcome) is) ∙ ends
ends_after before after End is ends = ap (λ (x : Items). x.outcome) is.1

pub no_fault : (before : Items) (f : Fault) → before ≡ refused f → before.outcome ≡ Ok tt → ⊥
no_fault before f is ends = let same = sym (ap (λ (x : Items). x.outcome) is) ∙ ends in cc

pub none_left : (before after : Items) (item : Read) → BeginsWithItem before item after → is_end item ≡ true → before.items ≡ []
none_left before after (Instance w) is end = cc
none_left before after (Event e) is end = cc
none_left before after InstanceEnd is end = cc
none_left before after End is end = ap (λ (x : Items). x.items) is.0

-- some items were read, and the names among them are noted
pub record Listing (is : List Item) (left : Items) (d : Directory) (i m a : List Name) (ri rm ra : ℕ) : Type 0 where
  pub ends : left.outcome ≡ Ok tt
  pub seen : Named
  pub holds : Holds d i m a seen
  pub instance_room : length i ≡ ri
  pub message_room : length m ≡ rm
  pub action_room : length a ≡ ra
  pub same : with_all seen left.items ≡ named_in is
  pub few : Few (named_in is)

pub titled : (ss : List Sentence) → Whole ss → items_in ss ≡ (items_from false (others ss)).items
titled ss w = ap (λ (r : Result Placed Fault). items_if r (items_from false (others ss))) w.begins

-- none was read
pub listing_none : (ss : List Sentence) (left : Items) (d : Directory) (i m a : List Name) → Whole ss → left ≡ items_from false (others ss) →
    i ≡ replicate (length i) no_name → m ≡ replicate (length m) no_name → a ≡ replicate (length a) no_name →
    ((ni nm na : ℕ) → Holds d (replicate ni no_name) (replicate nm no_name) (replicate na no_name) none_named) → Listing (items_in ss) left d i m a (length i) (length m) (length a)
listing_none ss left d i m a w is ei em ea none =
    record {
      ends = ap (λ (x : Items). x.outcome) is ∙ w.ends;
      seen = none_named;
      holds =
          let h = none (length i) (length m) (length a) in
          record {
            instances = subst (λ (x : List Name). Lists d.instances x []) (sym ei) h.instances;
            messages = subst (λ (x : List Name). Lists d.messages x []) (sym em) h.messages;
            actions = subst (λ (x : List Name). Lists d.actions x []) (sym ea) h.actions;
          };
      instance_room = refl;
      message_room = refl;
      action_room = refl;
      same = ap (λ (xs : List Item). with_all none_named xs) (ap (λ (x : Items). x.items) is ∙ sym (titled ss w));
      few = names_few (items_in ss) w.few_instances w.few_events;
    }

module _ (is : List Item) (before after : Items) (d : Directory) (i m a : List Name) (ri rm ra : ℕ) (l : Listing is before d i m a ri rm ra) (item : Read) (begins : BeginsWithItem before item after) where
  -- the names s are among those of the text
  shorter : (s : Named) → with_all s after.items ≡ named_in is →
      (length s.instances ≤ length (named_in is).instances) × (length s.messages ≤ length (named_in is).messages) × (length s.actions ≤ length (named_in is).actions)
  shorter s same = (
    let x = longer s.instances (names_in after.items) in let y = ap (λ (z : Named). length z.instances) same in omega arith,
    let x = longer s.messages (messages_in (events_of after.items)) in let y = ap (λ (z : Named). length z.messages) same in omega arith,
    let x = longer s.actions (actions_in (events_of after.items)) in let y = ap (λ (z : Named). length z.actions) same in omega arith,
  )

  -- the names with one more are few
  pub one_more_few : is_end item ≡ false → Few (with_named l.seen item)
  one_more_few other =
      let s = shorter (with_named l.seen item) (sym (with_one l.seen before after item begins other) ∙ l.same) in
      let f = l.few in
      let fi = f.instances in
      let fm = f.messages in
      let fa = f.actions in
      record {
        instances = let x = s.0 in omega arith;
        messages = let x = s.1 in omega arith;
        actions = let x = s.2 in omega arith;
      }

  -- one item more
  pub listing_more : is_end item ≡ false → (e : Directory) (j n b : List Name) → Holds e j n b (with_named l.seen item) → length j ≡ length i → length n ≡ length m → length b ≡ length a →
      Listing is after e j n b ri rm ra
  listing_more other e j n b h lj ln lb =
      record {
        ends = ends_after before after item begins l.ends;
        seen = with_named l.seen item;
        holds = h;
        instance_room = lj ∙ l.instance_room;
        message_room = ln ∙ l.message_room;
        action_room = lb ∙ l.action_room;
        same = sym (with_one l.seen before after item begins other) ∙ l.same;
        few = l.few;
      }

  -- a table that is too short for these is so for all
  pub listing_short : is_end item ≡ false → TooShort (length i) (length m) (length a) (with_named l.seen item) → TooShort ri rm ra (named_in is)
  listing_short other short =
      let s = shorter (with_named l.seen item) (sym (with_one l.seen before after item begins other) ∙ l.same) in
      let ki = l.instance_room in
      let km = l.message_room in
      let ka = l.action_room in
      elim short [
        | inl x ↦ inl (let y = s.0 in omega arith)
        | inr z ↦ elim z [
          | inl x ↦ inr (inl (let y = s.1 in omega arith))
          | inr x ↦ inr (inr (let y = s.2 in omega arith))
        ]
      ]

  -- all were read
  pub listing_end : is_end item ≡ true → Holds d i m a (named_in is)
  listing_end end = subst (Holds d i m a) (sym (ap (λ (xs : List Item). with_all l.seen xs) (none_left before after item begins end)) ∙ l.same) l.holds

-- what is answered of a refusal is answered where it is handed up
pub lists_by : (s : Named) (ri rm ra : ℕ) (i m a : List Name) (f : Fault) (r : Result Directory Fault) → r ≡ Err f → f ≡ at_byte ShortTable 0 → TooShort ri rm ra s → ListsNames s ri rm ra r i m a
lists_by s ri rm ra i m a f r is same short = subst (λ (x : Result Directory Fault). ListsNames s ri rm ra x i m a) (sym is) (same, short)
