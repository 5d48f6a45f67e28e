-- What is said of a text by its tables is told of the chart that it writes.
use Rattle.std.proofs.Common.{◌≡◌, ℕ, List, length, map, Ok, Result, refl, sym, ap₂, ◌∙◌, subst}
use Rattle.std.proofs.lemmas.List.{length-map}
use Rattle.charts.specs.declared.parts.Event.{Event}
use Rattle.charts.specs.Events.{no_event}
use Rattle.checks.specs.Cut.{in_one}
use Rattle.words.specs.Sentences.{sentences}
use Rattle.tables.specs.TableLists.{table_lists}
use Rattle.grammar.specs.Texts.{ChartText}
use Rattle.texts.specs.Readings.{Tables, Answer, tables_of, lengths_in, rows_in, greatest}
use Rattle.texts.specs.Charted.{lists_of as chart_lists}
use Rattle.texts.specs.Builds.{Builds}
use Rattle.texts.proofs.Padding.{take_rows}
use Rattle.texts.proofs.Readable.{Readable, readable}
use Rattle.texts.proofs.Charting.{length_in_one}
use Rattle.texts.proofs.Taking.{takes_ok}
use Rattle.logs.specs.declared.parts.Refusal.{Refusal}
use Rattle.logs.specs.declared.parts.Verdict.{Verdict}
use Rattle.verdicts.specs.declared.answers.Judgement.{Judgement}
use Rattle.verdicts.specs.declared.answers.LogAnswer.{LogAnswer}
use Rattle.verdicts.specs.Charts.{read, items_of, lists_of, names_of}
use Rattle.verdicts.specs.Judging.{Judges}
use Rattle.verdicts.specs.Checking.{Checked}
use Rattle.verdicts.specs.Told.{TellsJudgement, of_chart, TellsLog, by_chart}
use Rattle.verdicts.proofs.Readable.{members_padded, judges_same}

module _ (text : List ℕ) where
  abbrev t : Tables
  t = tables_of greatest (items_of text)

  -- the lists of a text that is read are those of the chart that its tables hold
  lists_are : (a : Answer) → read text ≡ Ok a → (c : ChartText) → Builds text c a t → lists_of text ≡ chart_lists c
  lists_are a reads c b = ap₂ table_lists lengths events ∙ b.chart
    where
      k : Readable (sentences text) a
      k = readable greatest (sentences text) a reads

      lengths : lengths_in (items_of text) ≡ map length (chart_lists c)
      lengths =
          sym (take_rows 0 32 a.instances (lengths_in (items_of text)) t.lengths refl k.instances)
          ∙ take_rows 0 (length t.lengths) a.instances (map length (chart_lists c)) t.lengths b.lengths (b.instance_count ∙ sym (length-map (chart_lists c) length))

      events : rows_in (items_of text) ≡ in_one (chart_lists c)
      events =
          sym (take_rows no_event 4096 a.events (rows_in (items_of text)) t.events refl k.events)
          ∙ take_rows no_event (length t.events) a.events (in_one (chart_lists c)) t.events b.events (b.event_count ∙ sym (length_in_one (chart_lists c)))

  -- what is told of it
  module _ (a : Answer) (reads : read text ≡ Ok a) where
    pub judgement_told : (j : Judgement) → Judges (lists_of text) (names_of text) j → TellsJudgement text j
    judgement_told j judges =
        let k = takes_ok text greatest a t reads refl in
        of_chart k.0 k.1 k.2 t.instances k.3.instances
        (subst (λ (L : List (List Event)). Judges L t.instances j) (lists_are a reads k.0 k.3) (judges_same (names_of text) t.instances (sym (members_padded (names_of text))) (lists_of text) j judges))

    pub log_told : (log : List ℕ) (r : Result Verdict Refusal) (x : LogAnswer) → Checked (lists_of text) log r x → TellsLog text log x
    log_told log r x checks =
        let k = takes_ok text greatest a t reads refl in
        by_chart k.0 k.1 k.2 r (subst (λ (L : List (List Event)). Checked L log r x) (lists_are a reads k.0 k.3) checks)
