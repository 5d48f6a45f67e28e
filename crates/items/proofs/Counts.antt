-- Counting a text item by item.
use Rattle.std.proofs.Common.{◌≡◌, ℕ, suc, ◌+◌, true, false, List, [], ◌∷◌, ◌++◌, length, take, drop, None, Option, Ok, Err, Result, refl, sym, ap, ap₂, ◌∙◌, subst, arith}
use Rattle.std.proofs.lemmas.Bool.{cond-true, cond-false}
use Rattle.std.proofs.lemmas.List.{length_push, append-nil, take-append-drop}
use Rattle.words.specs.declared.faults.Fault.{Fault}
use Rattle.words.specs.Sentences.{Placed}
use Rattle.words.specs.Reading.{placed}
use Rattle.sentences.specs.Wants.{among}
use Rattle.sentences.specs.Events.{event_words}
use Rattle.items.specs.declared.parts.Item.{Item as Read}
use Rattle.items.specs.declared.parts.Item.TheVariants.{Instance, Event, InstanceEnd, End}
use Rattle.items.specs.declared.tally.Tally.{Tally}
use Rattle.items.specs.Items.{Item, Items, instance_named, event, instance_ends, with_item, refused}
use Rattle.items.specs.Parsing.{BeginsWithItem, nothing_left}
use Rattle.items.specs.Surveys.{names_in, events_in, first_repeated, counted_if, counted, is_end, Counts}
use Rattle.items.specs.Tallies.{Holds, Takes}
use Rattle.items.proofs.Passing.{split_at, names_append}

-- a tally of what was read of a text, and what is left of it
pub record Counting (whole left : Items) (t : Tally) : Type 0 where
  pub left_is : left.items ≡ drop t.read whole.items
  pub outcome : left.outcome ≡ whole.outcome
  pub within : t.read + length left.items ≡ length whole.items
  pub holds : Holds t (take t.read whole.items)
  pub once : first_repeated [] (names_in whole.items) ≡ first_repeated (names_in (take t.read whole.items)) (names_in left.items)

pub counting_none : (whole : Items) (t : Tally) → Holds t [] → Counting whole whole t
counting_none whole t h =
    let zero_read : t.read ≡ 0 = h.read in
    record {
      left_is = ap (λ (n : ℕ). drop n whole.items) (sym zero_read);
      outcome = refl;
      within = omega arith;
      holds = subst (λ (n : ℕ). Holds t (take n whole.items)) (sym zero_read) h;
      once = ap (λ (n : ℕ). first_repeated (names_in (take n whole.items)) (names_in whole.items)) (sym zero_read);
    }

module _ (whole before : Items) (t : Tally) (k : Counting whole before t) where
  abbrev ns : List Placed
  ns = names_in (take t.read whole.items)

  -- one item more
  one_more : (i : Item) (after : Items) (u : Tally) → before ≡ with_item i after → Holds u (take t.read whole.items ++ (i ∷ [])) →
      first_repeated ns (names_in (i ∷ after.items)) ≡ first_repeated (names_in (take t.read whole.items ++ (i ∷ []))) (names_in after.items) → Counting whole after u
  one_more i after u is h once =
      let s = split_at t.read whole.items i after.items (sym k.left_is ∙ ap (λ (x : Items). x.items) is) in
      let r : u.read ≡ suc t.read = (let a = h.read in let b = k.holds.read in let c = length_push (take t.read whole.items) i in omega arith) in
      let now : take u.read whole.items ≡ take t.read whole.items ++ (i ∷ []) = ap (λ (n : ℕ). take n whole.items) r ∙ s.0 in
      record {
        left_is = sym (ap (λ (n : ℕ). drop n whole.items) r ∙ s.1);
        outcome = sym (ap (λ (x : Items). x.outcome) is) ∙ k.outcome;
        within = let w = k.within in let l = ap (λ (x : Items). length x.items) is in omega arith;
        holds = subst (Holds u) (sym now) h;
        once =
            k.once ∙ ap (λ (x : Items). first_repeated ns (names_in x.items)) is ∙ once
            ∙ ap (λ (x : List Item). first_repeated (names_in x) (names_in after.items)) (sym now);
      }

  pub counting_more : (item : Read) (after : Items) (u : Tally) → BeginsWithItem before item after → is_end item ≡ false → Takes (take t.read whole.items) item (Ok tt) u → Counting whole after u
  counting_more (Instance w) after u is e x =
      one_more (instance_named (placed w)) after u is x.1
      (cond-false {A = Option Placed} (among ns w.bytes.now) _ _ x.0
      ∙ ap (λ (z : List Placed). first_repeated z (names_in after.items)) (sym (names_append (take t.read whole.items) (instance_named (placed w) ∷ []))))
  counting_more (Event v) after u is e x =
      one_more (event (event_words v)) after u is x.1
      (ap (λ (z : List Placed). first_repeated z (names_in after.items)) (sym (names_append (take t.read whole.items) (event (event_words v) ∷ []) ∙ append-nil ns)))
  counting_more InstanceEnd after u is e x =
      one_more instance_ends after u is x.1
      (ap (λ (z : List Placed). first_repeated z (names_in after.items)) (sym (names_append (take t.read whole.items) (instance_ends ∷ []) ∙ append-nil ns)))
  counting_more End after u is e x = cc

  -- the text ends
  pub counting_end : before ≡ nothing_left → counted whole ≡ Ok (t.instances, t.events)
  counting_end is =
      let none : drop t.read whole.items ≡ [] = sym k.left_is ∙ ap (λ (x : Items). x.items) is in
      let all : take t.read whole.items ≡ whole.items = sym (append-nil (take t.read whole.items)) ∙ ap (λ (x : List Item). take t.read whole.items ++ x) (sym none) ∙ take-append-drop t.read whole.items in
      let i : length (names_in whole.items) ≡ t.instances = sym (k.holds.instances ∙ ap (λ (x : List Item). length (names_in x)) all) in
      let e : events_in whole.items ≡ t.events = sym (k.holds.events ∙ ap events_in all) in
      ap (λ o. counted_if o whole.outcome (length (names_in whole.items), events_in whole.items)) (k.once ∙ ap (λ (x : Items). first_repeated ns (names_in x.items)) is)
      ∙ ap (λ o. counted_if None o (length (names_in whole.items), events_in whole.items)) (sym k.outcome ∙ ap (λ (x : Items). x.outcome) is)
      ∙ ap₂ (λ (a b : ℕ). Ok (a, b)) i e

  -- it is refused
  pub counting_fault : (f : Fault) → before ≡ refused f → counted whole ≡ Err f
  counting_fault f is =
      ap (λ o. counted_if o whole.outcome (length (names_in whole.items), events_in whole.items)) (k.once ∙ ap (λ (x : Items). first_repeated ns (names_in x.items)) is)
      ∙ ap (λ o. counted_if None o (length (names_in whole.items), events_in whole.items)) (sym k.outcome ∙ ap (λ (x : Items). x.outcome) is)

  -- an instance is named twice
  pub counting_repeated : (item : Read) (after : Items) (u : Tally) (f : Fault) → BeginsWithItem before item after → Takes (take t.read whole.items) item (Err f) u → counted whole ≡ Err f
  counting_repeated (Instance w) after u f is x =
      ap (λ o. counted_if o whole.outcome (length (names_in whole.items), events_in whole.items))
      (k.once ∙ ap (λ (z : Items). first_repeated ns (names_in z.items)) is ∙ cond-true {A = Option Placed} (among ns w.bytes.now) _ _ x.0)
      ∙ ap (λ (z : Fault). Err z) (sym x.1)
  counting_repeated (Event v) after u f is x = let z = x.0 in cc
  counting_repeated InstanceEnd after u f is x = let z = x.0 in cc
  counting_repeated End after u f is x = cc

-- an item that is the end
pub is_the_end : (before after : Items) (item : Read) → BeginsWithItem before item after → is_end item ≡ true → before ≡ nothing_left
is_the_end before after (Instance w) is e = cc
is_the_end before after (Event v) is e = cc
is_the_end before after InstanceEnd is e = cc
is_the_end before after End is e = is.0

-- any other leaves fewer
pub shrinks : (before after : Items) (item : Read) → BeginsWithItem before item after → is_end item ≡ false → length after.items + 1 ≡ length before.items
shrinks before after (Instance w) is e = let l = ap (λ (x : Items). length x.items) is in omega arith
shrinks before after (Event v) is e = let l = ap (λ (x : Items). length x.items) is in omega arith
shrinks before after InstanceEnd is e = let l = ap (λ (x : Items). length x.items) is in omega arith
shrinks before after End is e = cc

-- the fault that was found is what is answered
pub counts_by : (whole : Items) (f : Fault) (r : Result (ℕ × ℕ) Fault) → r ≡ Err f → counted whole ≡ Err f → Counts whole r
counts_by whole f r is bad = bad ∙ sym is
