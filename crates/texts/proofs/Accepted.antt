-- A text that is read has no fault, and its tables have room.
use Rattle.std.proofs.Common.{◌≡◌, ◌≤◌, ◌⊎◌, Bool, true, false, ◌&&◌, nat_le, List, length, Some, None, Option, option_map, Ok, Err, Result, inl, inr, refl, leb-true}
use Rattle.std.proofs.lemmas.Bool.{and_parts}
use Rattle.checks.specs.Choice.{unless, or_else}
use Rattle.checks.specs.Checked.{checked}
use Rattle.checks.proofs.Chosen.{or_else_none, unless_none}
use Rattle.words.specs.declared.faults.Cause.TheVariants.{ShortTable}
use Rattle.words.specs.declared.faults.Fault.{Fault}
use Rattle.words.specs.Sentences.{Sentence}
use Rattle.sentences.specs.Wants.{at_byte}
use Rattle.items.specs.Items.{Item}
use Rattle.items.specs.Instances.{instances_in}
use Rattle.items.specs.Surveys.{Size, items_in, surveyed}
use Rattle.texts.specs.Directories.{named_in}
use Rattle.texts.specs.Drafts.{first_unknown}
use Rattle.texts.specs.Readings.{Rooms, Answer, all_events, lengths_in, rows_in, enough, unknown_fault, chart_fault, refusal, answer, unless_fault, read_sized, read_as}
use Rattle.texts.proofs.Sized.{Sized, sized_text}

none_mapped : {X Y : Type 0} (f : X → Y) (o : Option X) → option_map f o ≡ None → o ≡ None
none_mapped f None h = refl
none_mapped f (Some x) h = cc

-- each table has room
pub record Enough (r : Rooms) (is : List Item) : Type 0 where
  pub lengths : length (lengths_in is) ≤ r.lengths
  pub events : length (rows_in is) ≤ r.events
  pub instances : length (named_in is).instances ≤ r.instances
  pub messages : length (named_in is).messages ≤ r.messages
  pub actions : length (named_in is).actions ≤ r.actions

pub has_enough : (r : Rooms) (is : List Item) → enough r is ≡ true → Enough r is
has_enough r is h =
    let la = nat_le (length (lengths_in is)) r.lengths in
    let lb = nat_le (length (rows_in is)) r.events in
    let lc = nat_le (length (named_in is).instances) r.instances in
    let ld = nat_le (length (named_in is).messages) r.messages in
    let le = nat_le (length (named_in is).actions) r.actions in
    let p = and_parts (la && lb) (lc && (ld && le)) h in
    let q = and_parts la lb p.0 in
    let u = and_parts lc (ld && le) p.1 in
    let v = and_parts ld le u.1 in
    record {
      lengths = leb-true (length (lengths_in is)) r.lengths q.0;
      events = leb-true (length (rows_in is)) r.events q.1;
      instances = leb-true (length (named_in is).instances) r.instances u.0;
      messages = leb-true (length (named_in is).messages) r.messages v.0;
      actions = leb-true (length (named_in is).actions) r.actions v.1;
    }

pub one_false : (a b c d e : Bool) → ((a && b) && (c && (d && e))) ≡ false → (a ≡ false) ⊎ ((b ≡ false) ⊎ ((c ≡ false) ⊎ ((d ≡ false) ⊎ (e ≡ false))))
one_false false b c d e h = inl refl
one_false true false c d e h = inr (inl refl)
one_false true true false d e h = inr (inr (inl refl))
one_false true true true false e h = inr (inr (inr (inl refl)))
one_false true true true true false h = inr (inr (inr (inr refl)))
one_false true true true true true h = cc

-- no reason to refuse
pub record Free (r : Rooms) (is : List Item) : Type 0 where
  pub room : enough r is ≡ true
  pub known : first_unknown (named_in is).instances (all_events (instances_in is)) ≡ None
  pub faultless : checked (lengths_in is) (rows_in is) ≡ None

is_free : (r : Rooms) (is : List Item) → refusal r is ≡ None → Free r is
is_free r is h =
    let x = unless (enough r is) (at_byte ShortTable 0) in
    let y = unknown_fault (first_unknown (named_in is).instances (all_events (instances_in is))) in
    let z = chart_fault (instances_in is) (checked (lengths_in is) (rows_in is)) in
    let a = or_else_none x (or_else y (or_else z None)) h in
    let b = or_else_none y (or_else z None) a.1 in
    let c = or_else_none z None b.1 in
    record {
      room = unless_none (enough r is) (at_byte ShortTable 0) a.0;
      known = none_mapped _ _ b.0;
      faultless = none_mapped _ _ c.0;
    }

-- a text that is read
pub record Accepted (ss : List Sentence) (r : Rooms) (a : Answer) : Type 0 where
  pub size : Size
  pub sized : Sized ss size
  pub free : Free r (items_in ss)
  pub is : answer size (named_in (items_in ss)) ≡ a

pub accepted : (ss : List Sentence) (r : Rooms) (a : Answer) → read_as r ss ≡ Ok a → Accepted ss r a
accepted ss r a h = go (surveyed ss) refl h
  where
    go : (z : Result Size Fault) → surveyed ss ≡ z → read_sized r (items_in ss) z ≡ Ok a → Accepted ss r a
    go (Err f) surveys h = cc
    go (Ok size) surveys h = by (refusal r (items_in ss)) refl h
      where
        by : (o : Option Fault) → refusal r (items_in ss) ≡ o → unless_fault o (answer size (named_in (items_in ss))) ≡ Ok a → Accepted ss r a
        by (Some f) refused h = cc
        by None refused h = record { size = size; sized = sized_text ss size surveys; free = is_free r (items_in ss) refused; is = cc }
