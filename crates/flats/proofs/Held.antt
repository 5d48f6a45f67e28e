-- A column has the events of its instance.
use Rattle.std.proofs.Common.{◌≡◌, ℕ, zero, suc, ◌+◌, ◌<◌, ◌≤◌, List, [], ◌∷◌, length, get_or, take, drop, Ok, sum, Result, sym, refl, ap, ◌∙◌, subst, arith}
use Rattle.std.proofs.lemmas.List.{drop-drop, get_or-map, get_or_past, length-map}
use Rattle.std.proofs.lemmas.List.Sums.{sum_by_more, sum_by-take-le}
use Rattle.charts.specs.declared.parts.Event.{Event}
use Rattle.charts.specs.declared.faults.Fault.{Fault}
use Rattle.charts.specs.declared.parts.Summary.{Summary}
use Rattle.charts.specs.Judged.{summed}
use Rattle.charts.specs.Lists.{column}
use Rattle.checks.specs.Cut.{cut}
use Rattle.checks.proofs.Cuts.{sum_cons, cut_length}
use Rattle.tables.specs.TableLists.{table_lists}
use Rattle.tables.proofs.Answering.{whole, lists_whole}
use Rattle.flats.specs.declared.columns.Column.{Column}
use Rattle.flats.specs.FlatLists.{no_column, counts, Placed, flat_trouble, flat_lists}

cut_column : (ns : List ℕ) (es : List Event) (i : ℕ) → i < length ns → column (cut ns es) i ≡ take (get_or ns i 0) (drop (sum (take i ns)) es)
cut_column [] es i h = absurd (omega arith)
cut_column (n ∷ ns) es zero h = refl
cut_column (n ∷ ns) es (suc i) h =
    cut_column ns (drop n es) i (omega arith)
    ∙ ap (take (get_or ns i 0)) (drop-drop (sum (take i ns)) n es ∙ ap (λ (x : ℕ). drop x es) (sym (sum_cons n (take i ns))))

-- the column is within the events, and has those of instance i
pub record Holds (c : Column) (es : List Event) (L : List (List Event)) (i : ℕ) : Type 0 where
  pub few : length es ≤ 4096
  pub within : c.start + c.count ≤ length es
  pub has : take c.count (drop c.start es) ≡ column L i

module _ (cs : List Column) (es : List Event) (i : ℕ) where
  -- what the verdict tells
  abbrev Said : Result Summary Fault → Type 0
  Said v = v ≡ summed (flat_trouble v (counts cs) es) (flat_lists v (counts cs) es)

  table_holds : (s : Summary) → Placed cs → i < length cs → Said (Ok s) → Holds (get_or cs i no_column) es (table_lists (counts cs) es) i
  table_holds s p h e =
      let ns = counts cs in
      let n = get_or-map (λ c. c.count) cs i no_column 0 h in
      let a = p i h in
      let l = length-map cs (λ c. c.count) in
      let lt : i < length ns = omega arith in
      record {
        few = (whole ns es s e).long;
        within =
            (let even = (whole ns es s e).even in
            let more = sum_by_more (λ x. x) ns i 0 lt in
            let part = sum_by-take-le (λ x. x) ns (i + 1) in
            omega arith);
        has =
            ap (λ (x : ℕ). take x (drop (get_or cs i no_column).start es)) (sym n) ∙ ap (λ (x : ℕ). take (get_or ns i 0) (drop x es)) a
            ∙ sym (cut_column ns es i lt) ∙ ap (λ (L : List (List Event)). column L i) (sym (lists_whole ns es s e));
      }

  pub holds : (v : Result Summary Fault) (s : Summary) (c : Column) → v ≡ Ok s → Placed cs → Said v → i < length cs → c ≡ get_or cs i no_column →
      Holds c es (flat_lists v (counts cs) es) i
  holds v s c e p said h is =
      subst (λ (x : Column). Holds x es (flat_lists v (counts cs) es) i) (sym is)
      (subst (λ (x : Result Summary Fault). Said x → Holds (get_or cs i no_column) es (flat_lists x (counts cs) es) i) (sym e) (table_holds s p h) said)

  -- past the columns there are no events
  past_table : (s : Summary) → length cs ≤ i → Said (Ok s) → [] ≡ column (table_lists (counts cs) es) i
  past_table s h e =
      let l = length-map cs (λ c. c.count) in
      let w = cut_length (counts cs) es in
      sym (ap (λ (L : List (List Event)). column L i) (lists_whole (counts cs) es s e) ∙ get_or_past (cut (counts cs) es) i [] (omega arith))

  pub past : (v : Result Summary Fault) (s : Summary) → v ≡ Ok s → Said v → length cs ≤ i → [] ≡ column (flat_lists v (counts cs) es) i
  past v s e said h =
      subst (λ (x : Result Summary Fault). Said x → [] ≡ column (flat_lists x (counts cs) es) i) (sym e) (past_table s h) said
