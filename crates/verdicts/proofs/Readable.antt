-- What a text that is read says of its tables.
use Rattle.std.proofs.Common.{◌≡◌, ℕ, zero, suc, List, [], ◌∷◌, ◌++◌, length, replicate, take, map, slice_index_or, None, Ok, refl, ap, ◌∙◌, subst₂}
use mathlib.Core.Path.{fun_ext}
use Rattle.charts.specs.declared.parts.Event.{Event}
use Rattle.charts.specs.Events.{no_event}
use Rattle.checks.specs.Checked.{checked}
use Rattle.words.specs.Sentences.{sentences}
use Rattle.tables.specs.TableLists.{table_lists}
use Rattle.texts.specs.declared.rows.Name.{Name}
use Rattle.texts.specs.Rows.{padded, no_name}
use Rattle.texts.specs.Readings.{Answer, Tables, tables_of, lengths_in, rows_in, greatest}
use Rattle.texts.proofs.Padding.{take_rows}
use Rattle.texts.proofs.Readable.{readable}
use Rattle.verdicts.specs.declared.charted.Charted.{Charted}
use Rattle.verdicts.specs.declared.answers.Judgement.{Judgement}
use Rattle.verdicts.specs.declared.answers.Member.{Member}
use Rattle.verdicts.specs.Answers.{no_member, member, member_of, stuck}
use Rattle.verdicts.specs.Charts.{Holds, read, lists_of, names_of, items_of}
use Rattle.verdicts.specs.Kept.{lists_in}
use Rattle.verdicts.specs.Judging.{Judges, runs_by, stuck_by}

-- what the tables hold of a text that was read
pub record InUse (text : List ℕ) (width count : ℕ) (lengths : List ℕ) (events : List Event) (names : List Name) : Type 0 where
  pub lengths_are : take width lengths ≡ lengths_in (items_of text)
  pub events_are : take count events ≡ rows_in (items_of text)
  pub names_are : names ≡ padded no_name 32 (names_of text)
  pub sound : checked (take width lengths) (take count events) ≡ None

pub in_use : (text : List ℕ) (a : Answer) (t : Tables) → read text ≡ Ok a → t ≡ tables_of greatest (items_of text) → InUse text a.instances a.events t.lengths t.events t.instances
in_use text a t e is =
    let k = readable greatest (sentences text) a e in
    let ns = take_rows 0 32 a.instances (lengths_in (items_of text)) t.lengths (ap (λ (x : Tables). x.lengths) is) k.instances in
    let es = take_rows no_event 4096 a.events (rows_in (items_of text)) t.events (ap (λ (x : Tables). x.events) is) k.events in
    record {
      lengths_are = ns;
      events_are = es;
      names_are = ap (λ (x : Tables). x.instances) is;
      sound = ap (λ (x : List ℕ). checked x (take a.events t.events)) ns ∙ ap (checked (lengths_in (items_of text))) es ∙ k.sound;
    }

-- rows that are not used are the same as none
index_unused : {X : Type 0} (z : X) (n i : ℕ) → slice_index_or (replicate n z) i z ≡ z
index_unused z zero i = refl
index_unused z (suc n) zero = refl
index_unused z (suc n) (suc i) = index_unused z n i

index_padded : {X : Type 0} (z : X) (xs : List X) (n i : ℕ) → slice_index_or (xs ++ replicate n z) i z ≡ slice_index_or xs i z
index_padded z [] n i = index_unused z n i
index_padded z (x ∷ xs) n zero = refl
index_padded z (x ∷ xs) n (suc i) = index_padded z xs n i

pub members_padded : (names : List Name) → member_of (padded no_name 32 names) ≡ member_of names
members_padded names = fun_ext (λ i. ap (member i) (index_padded no_name names _ i))

-- names that give the same rows are told alike
module _ (names others : List Name) (same : member_of names ≡ member_of others) where
  stuck_same : (ring : List ℕ) (j : Judgement) → j ≡ stuck names ring → j ≡ stuck others ring
  stuck_same ring j is = is ∙ ap (λ (f : ℕ → Member). record { word = 2; number = 0; byte = 0; count = length ring; ring = padded no_member 32 (map f ring) }) same

  pub judges_same : (L : List (List Event)) (j : Judgement) → Judges L names j → Judges L others j
  judges_same L j (runs_by w full is) = runs_by w full is
  judges_same L j (stuck_by ring s is) = stuck_by ring s (stuck_same ring j is)

-- what tables hold of a text are its lists and its names
pub lists_held : (text : List ℕ) (c : Charted) → Holds text c → lists_in c ≡ lists_of text
lists_held text c h = ap (λ (ns : List ℕ). table_lists ns (take c.count c.events)) h.lengths ∙ ap (table_lists (lengths_in (items_of text))) h.events

pub judges_held : (text : List ℕ) (c : Charted) (j : Judgement) → Holds text c → Judges (lists_in c) c.names j → Judges (lists_of text) (names_of text) j
judges_held text c j h judges =
    judges_same (padded no_name 32 (names_of text)) (names_of text) (members_padded (names_of text)) (lists_of text) j (subst₂ (λ (L : List (List Event)) (names : List Name). Judges L names j) (lists_held text c h) h.names judges)
