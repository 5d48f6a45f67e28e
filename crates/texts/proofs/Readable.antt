-- What is known of the chart of a text that was read.
use Rattle.std.proofs.Common.{◌≡◌, List, length, Some, None, Option, Ok, Err, Result, refl, sym, ap, ◌∙◌}
use Rattle.charts.specs.declared.faults.Fault.{Fault as ChartFault}
use Rattle.checks.specs.Choice.{or_else, unless}
use Rattle.checks.specs.Checked.{checked}
use Rattle.words.specs.declared.faults.Fault.{Fault}
use Rattle.words.specs.declared.faults.Cause.TheVariants.{ShortTable}
use Rattle.words.specs.Sentences.{Sentence}
use Rattle.sentences.specs.Wants.{at_byte}
use Rattle.items.specs.Instances.{InstanceWords, instances_in}
use Rattle.items.specs.Surveys.{Size, items_in, surveyed}
use Rattle.texts.specs.Directories.{named_in}
use Rattle.texts.specs.Drafts.{first_unknown}
use Rattle.texts.specs.Readings.{Rooms, Answer, all_events, lengths_in, rows_in, enough, unknown_fault, chart_fault, refusal, answer, unless_fault, read_sized, read_as}
use Rattle.texts.proofs.Sized.{sized_text}
use Rattle.texts.proofs.Answering.{as_long, as_many}

-- the last of three checks passes where all do
last_passes : {X : Type 0} (x y z : Option X) → or_else x (or_else y (or_else z None)) ≡ None → z ≡ None
last_passes None None None e = refl
last_passes None None (Some z) e = cc
last_passes None (Some y) z e = cc
last_passes (Some x) y z e = cc

no_fault : (ns : List InstanceWords) (f : Option ChartFault) → chart_fault ns f ≡ None → f ≡ None
no_fault ns None e = refl
no_fault ns (Some f) e = cc

answered_none : (f : Option Fault) (a b : Answer) → unless_fault f a ≡ Ok b → (f ≡ None) × (a ≡ b)
answered_none None a b e = (refl, cc)
answered_none (Some f) a b e = cc

-- the rows in use are as many as the lengths, and as the events, and the chart breaks no rule
pub record Readable (ss : List Sentence) (a : Answer) : Type 0 where
  pub instances : a.instances ≡ length (lengths_in (items_in ss))
  pub events : a.events ≡ length (rows_in (items_in ss))
  pub sound : checked (lengths_in (items_in ss)) (rows_in (items_in ss)) ≡ None

sized_readable : (r : Rooms) (ss : List Sentence) (a : Answer) (size : Result Size Fault) → surveyed ss ≡ size → read_sized r (items_in ss) size ≡ Ok a → Readable ss a
sized_readable r ss a (Err f) s e = cc
sized_readable r ss a (Ok size) s e =
    let is = items_in ss in
    let both = answered_none (refusal r is) (answer size (named_in is)) a e in
    let whole = sized_text ss size s in
    record {
      instances = sym (ap (λ (x : Answer). x.instances) both.1) ∙ sym (as_long ss size s whole r);
      events = sym (ap (λ (x : Answer). x.events) both.1) ∙ sym (as_many ss size s whole r);
      sound = no_fault (instances_in is) (checked (lengths_in is) (rows_in is))
          (last_passes (unless (enough r is) (at_byte ShortTable 0)) (unknown_fault (first_unknown (named_in is).instances (all_events (instances_in is)))) (chart_fault (instances_in is) (checked (lengths_in is) (rows_in is))) both.0);
    }

pub readable : (r : Rooms) (ss : List Sentence) (a : Answer) → read_as r ss ≡ Ok a → Readable ss a
readable r ss a e = sized_readable r ss a (surveyed ss) refl e
