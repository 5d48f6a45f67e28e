-- What the answers of a table read off its lists.
use Rattle.std.proofs.Common.{◌≡◌, ℕ, suc, ◌+◌, ◌<◌, ◌≤◌, max, Bool, true, false, cond, fold, filter, List, [], ◌∷◌, length, get_or, take, Some, None, Ok, sum, Option, sym, refl, ap, ◌∙◌, inl, inr, arith}
use Rattle.std.proofs.lemmas.List.{get_or_past}
use Rattle.std.proofs.lemmas.List.Sums.{sum_by-take-drop, sum_by-drop_more}
use Rattle.std.proofs.lemmas.Bool.{cases_lt}
use Rattle.charts.specs.declared.parts.Event.{Event}
use Rattle.charts.specs.declared.faults.Fault.{Fault}
use Rattle.charts.specs.declared.parts.Summary.{Summary}
use Rattle.charts.specs.Events.{no_event, is_message}
use Rattle.charts.specs.Lists.{column, count_of, event_of}
use Rattle.charts.specs.Span.{span_of}
use Rattle.charts.specs.Judged.{summed, unspoiled}
use Rattle.checks.specs.Cut.{cut}
use Rattle.checks.specs.Checked.{checked}
use Rattle.checks.specs.SoundTable.{SoundTable}
use Rattle.checks.proofs.Chosen.{some_none}
use Rattle.checks.proofs.Exact.{sound_checked}
use Rattle.charts.proofs.Summaries.{summed_ok}
use Rattle.checks.proofs.Cuts.{cut_length, cut_count, cut_event, cut_size, cut_span}
use Rattle.checks.proofs.Passed.{Passed, passed_from}
use Rattle.tables.specs.TableLists.{table_lists}

module _ (ns : List ℕ) (es : List Event) where
  -- the size of the chart, where no rule is broken
  pub sized : checked ns es ≡ None → Ok (record { width = length ns; events = length es; span = span_of es }) ≡ summed (checked ns es) (table_lists ns es)
  sized e =
      let even = (passed_from ns es e).even in
      let w = sym (cut_length ns es) in
      let z = sym (cut_size ns es even) in
      let v = sym (cut_span ns es even) in
      ap Ok (λ t. record { width = w t; events = z t; span = v t }) ∙ ap (λ (f : Option Fault). summed f (unspoiled f (cut ns es))) (sym e)

  pub not_sound : (f : Fault) → checked ns es ≡ Some f → SoundTable ns es → ⊥
  not_sound f e s = some_none f (sym e ∙ sound_checked ns es s)

  -- the table's lists where its summary is answered, and where a fault is
  pub whole : (s : Summary) → Ok s ≡ summed (checked ns es) (table_lists ns es) → Passed ns es
  whole s e = passed_from ns es (summed_ok (checked ns es) (table_lists ns es) s e).whole

  pub lists_whole : (s : Summary) → Ok s ≡ summed (checked ns es) (table_lists ns es) → table_lists ns es ≡ cut ns es
  lists_whole s e = ap (λ (f : Option Fault). unspoiled f (cut ns es)) (summed_ok (checked ns es) (table_lists ns es) s e).whole

  pub counted : (s : Summary) (i : ℕ) → Ok s ≡ summed (checked ns es) (table_lists ns es) → get_or ns i 0 ≡ count_of (table_lists ns es) i
  counted s i e =
      let v = (whole s e).even in sym (ap (λ (L : List (List Event)). count_of L i) (lists_whole s e) ∙ cut_count ns es i (omega arith))

  -- an event within the lists, and where it stands in the table
  pub record Inside (i k : ℕ) : Type 0 where
    pub instance : i < length ns
    pub few : length ns ≤ 32
    pub short : length es ≤ 4096
    pub place : sum (take i ns) + k < length es
    pub is : get_or es (sum (take i ns) + k) no_event ≡ event_of (table_lists ns es) i k

  inside_at : (f : Option Fault) (i k : ℕ) → checked ns es ≡ f → k < count_of (unspoiled f (cut ns es)) i → Inside i k
  inside_at None i k e h =
      let p = passed_from ns es e in
      let v = p.even in
      let c = cut_count ns es i (omega arith) in
      let within : i < length ns = elim (cases_lt i (length ns)) [ inl l ↦ l | inr l ↦ absurd (let o = get_or_past ns i 0 l in omega arith) ] in
      let a = sum_by-take-drop (λ x. x) ns i in
      let b = sum_by-drop_more (λ x. x) ns i 0 within in
      record {
        instance = within;
        few = p.wide;
        short = p.long;
        place = omega arith;
        is = sym (ap (λ (f : Option Fault). event_of (unspoiled f (cut ns es)) i k) e ∙ cut_event ns es i k h);
      }
  inside_at (Some x) i k e h = absurd (omega arith)

  pub inside : (i k : ℕ) → k < count_of (table_lists ns es) i → Inside i k
  inside i k h = inside_at (checked ns es) i k refl h

-- the span is the greatest that its messages give
fold_step : (s : ℕ) (e : Event) (es : List Event) (t : Bool) → ((r : ℕ) → fold (λ s e. max s (e.number + 1)) r (filter is_message es) ≡ max r (span_of es)) →
    fold (λ s e. max s (e.number + 1)) s (cond t (e ∷ filter is_message es) (filter is_message es)) ≡ max s (max (cond t (suc e.number) 0) (span_of es))
fold_step s e es true r = let h = r (max s (e.number + 1)) in omega arith
fold_step s e es false r = let h = r s in omega arith

fold_from : (s : ℕ) (es : List Event) → fold (λ s e. max s (e.number + 1)) s (filter is_message es) ≡ max s (span_of es)
fold_from s [] = omega arith
fold_from s (e ∷ es) = fold_step s e es (is_message e) (λ r. fold_from r es)

pub span_fold : (es : List Event) → fold (λ s e. max s (e.number + 1)) 0 (filter is_message es) ≡ span_of es
span_fold es = let h = fold_from 0 es in omega arith

-- past its count an instance has no event
pub outside : (L : List (List Event)) (i k : ℕ) → count_of L i ≤ k → no_event ≡ event_of L i k
outside L i k h = sym (get_or_past (column L i) k no_event h)
