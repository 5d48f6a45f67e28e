-- A text that has a size is whole.
use Rattle.std.proofs.Common.{◌≡◌, ℕ, ◌≤◌, Bool, true, false, cond, List, [], length, nat_lt, Some, None, Option, Ok, Err, Result, refl, sym, ap, ◌∙◌, subst}
use Rattle.std.proofs.lemmas.Bool.{ltb-false}
use Rattle.charts.specs.declared.faults.Rule.TheVariants.{Lengths, Events}
use Rattle.words.specs.declared.faults.Cause.TheVariants.{Chart}
use Rattle.words.specs.declared.faults.Fault.{Fault}
use Rattle.words.specs.Sentences.{Placed, Sentence}
use Rattle.words.specs.Reading.{others}
use Rattle.sentences.specs.Wants.{at_byte}
use Rattle.items.specs.Items.{Item, Items, items_from}
use Rattle.items.specs.Parsing.{title_in}
use Rattle.items.specs.Surveys.{Size, names_in, events_in, items_in, items_if, first_repeated, counted_if, limited, sized, surveyed}
use Rattle.texts.specs.Whole.{Whole}

-- the text is whole, and of this size
pub record Sized (ss : List Sentence) (size : Size) : Type 0 where
  pub whole : Whole ss
  pub title : title_in ss ≡ Ok size.title
  pub instances : size.instances ≡ length (names_in (items_in ss))
  pub events : size.events ≡ events_in (items_in ss)

module _ (ss : List Sentence) (size : Size) where
  abbrev rest : Items
  rest = items_from false (others ss)

  abbrev count : ℕ × ℕ
  count = (length (names_in rest.items), events_in rest.items)

  within : (t : Placed) → title_in ss ≡ Ok t → first_repeated [] (names_in rest.items) ≡ None → rest.outcome ≡ Ok tt → (b c : Bool) → nat_lt 32 count.0 ≡ b → nat_lt 4096 count.1 ≡ c →
      sized (Ok t) (cond b (Err (at_byte (Chart Lengths) 0)) (cond c (Err (at_byte (Chart Events) 0)) (Ok count))) ≡ Ok size → Sized ss size
  within t titled once ends true c few_i few_e is = cc
  within t titled once ends false true few_i few_e is = cc
  within t titled once ends false false few_i few_e is =
      let same : record { title = t; instances = count.0; events = count.1 } ≡ size = cc in
      let all : items_in ss ≡ rest.items = ap (λ (r : Result Placed Fault). items_if r rest) titled in
      record {
        whole = record {
          title = t;
          begins = titled;
          ends = ends;
          once = ap (λ (is : List Item). first_repeated [] (names_in is)) all ∙ once;
          few_instances = subst (λ (is : List Item). length (names_in is) ≤ 32) (sym all) (ltb-false 32 count.0 few_i);
          few_events = subst (λ (is : List Item). events_in is ≤ 4096) (sym all) (ltb-false 4096 count.1 few_e);
        };
        title = titled ∙ ap (λ (z : Size). Ok z.title) same;
        instances = sym (ap (λ (z : Size). z.instances) same) ∙ sym (ap (λ (is : List Item). length (names_in is)) all);
        events = sym (ap (λ (z : Size). z.events) same) ∙ sym (ap events_in all);
      }

  by_cases : (t : Result Placed Fault) → title_in ss ≡ t → (r : Option Placed) → first_repeated [] (names_in rest.items) ≡ r → (o : Result (Unit {0}) Fault) → rest.outcome ≡ o →
      sized t (limited (counted_if r o count)) ≡ Ok size → Sized ss size
  by_cases (Err f) titled r once o ends is = cc
  by_cases (Ok t) titled (Some m) once o ends is = cc
  by_cases (Ok t) titled None once (Err f) ends is = cc
  by_cases (Ok t) titled None once (Ok u) ends is = within t titled once ends (nat_lt 32 count.0) (nat_lt 4096 count.1) refl refl is

  pub sized_text : surveyed ss ≡ Ok size → Sized ss size
  sized_text is = by_cases (title_in ss) refl (first_repeated [] (names_in rest.items)) refl rest.outcome refl is
