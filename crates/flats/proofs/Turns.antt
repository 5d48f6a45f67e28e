-- One turn of the loops that copy a chart.
use Rattle.std.proofs.Common.{◌≡◌, ℕ, ◌+◌, ◌<◌, ◌≤◌, List, [], ◌∷◌, ◌++◌, map, length, get_or, take, sum, sym, refl, ap, ◌∙◌, inl, inr, append_assoc, arith}
use Rattle.std.proofs.lemmas.List.{length_push, length-map, get_or_append_left, get_or_push, take_more, take_all, take_at, take-append-le, map_push, map_more, flat_map_more}
use Rattle.std.proofs.lemmas.Bool.{cases_lt}
use Rattle.charts.specs.declared.parts.Event.{Event}
use Rattle.charts.specs.Events.{no_event}
use Rattle.charts.specs.Lists.{column, count_of}
use Rattle.checks.specs.Cut.{in_one}
use Rattle.checks.proofs.Joined.{sum_lengths}
use Rattle.flats.specs.declared.columns.Column.{Column}
use Rattle.flats.specs.FlatLists.{no_column, counts, Placed}

-- one event more of an instance
pub event_more : (before now next es : List Event) (e : Event) (k : ℕ) → k < length es → now ≡ before ++ take k es → e ≡ get_or es k no_event → next ≡ now ++ e ∷ [] → next ≡ before ++ take (k + 1) es
event_more before now next es e k h inv is pushed =
    pushed ∙ (λ t. inv t ++ is t ∷ []) ∙ append_assoc before (take k es) (get_or es k no_event ∷ [])
    ∙ ap (λ (xs : List Event). before ++ xs) (sym (take_more es k no_event h))

-- all events of an instance
pub event_all : (before now es : List Event) (k : ℕ) → length es ≤ k → now ≡ before ++ take k es → now ≡ before ++ es
event_all before now es k h inv = inv ∙ ap (λ (xs : List Event). before ++ xs) (take_all k es h)

-- one column more
counts_push : (cs : List Column) (c : Column) → counts (cs ++ c ∷ []) ≡ counts cs ++ c.count ∷ []
counts_push cs c = map_push (λ c. c.count) cs c

placed_push : (cs : List Column) (c : Column) → Placed cs → c.start ≡ sum (counts cs) → Placed (cs ++ c ∷ [])
placed_push cs c p e i h =
    let n = length-map cs (λ c. c.count) in
    let l = length_push cs c in
    elim (cases_lt i (length cs)) [
      | inl lt ↦
          ap (λ (x : Column). x.start) (get_or_append_left cs (c ∷ []) no_column i lt) ∙ p i lt
          ∙ ap sum (sym (take-append-le i (counts cs) (c.count ∷ []) (omega arith)) ∙ ap (take i) (sym (counts_push cs c)))
      | inr ge ↦
          ap (λ (x : Column). x.start) (get_or_push cs c no_column i (omega arith)) ∙ e
          ∙ ap sum (sym (take_at (counts cs) (c.count ∷ []) i (omega arith)) ∙ ap (take i) (sym (counts_push cs c)))
    ]

-- the columns and the events of the first i instances
pub record Firsts (cs : List Column) (es : List Event) (i : ℕ) (L : List (List Event)) : Type 0 where
  pub columns : counts cs ≡ map length (take i L)
  pub placed : Placed cs
  pub events : es ≡ in_one (take i L)

pub firsts_none : (cs : List Column) (es : List Event) (L : List (List Event)) → cs ≡ [] → es ≡ [] → Firsts cs es 0 L
firsts_none cs es L a b = rw (a, b) (record { columns = refl; placed = λ i h. absurd (omega arith); events = refl })

-- one instance more
pub firsts_more : (cs ds : List Column) (es fs : List Event) (c : Column) (i : ℕ) (L : List (List Event)) → i < length L → Firsts cs es i L →
    c ≡ record { start = length es; count = count_of L i } → ds ≡ cs ++ c ∷ [] → fs ≡ es ++ column L i → Firsts ds fs (i + 1) L
firsts_more cs ds es fs c i L h so is a b =
    let count = ap (λ (x : Column). x.count) is in
    let start : c.start ≡ sum (counts cs) =
    ap (λ (x : Column). x.start) is ∙ ap length so.events ∙ sym (sum_lengths (take i L)) ∙ ap sum (sym so.columns) in
    rw (a, b)
    (record {
      columns = counts_push cs c ∙ (λ t. so.columns t ++ count t ∷ []) ∙ sym (map_more length L i [] h);
      placed = placed_push cs c so.placed start;
      events =
          ap (λ (xs : List Event). xs ++ column L i) so.events ∙ flat_map_more (λ es. es) [] (take i L) (column L i)
          ∙ ap in_one (sym (take_more L i [] h));
    })
