-- The tables of a text that was read, and the chart over the rows in use.
use Rattle.std.proofs.Common.{◌≡◌, ℕ, List, ◌∷◌, take, Ok, Result, sym, ap, ◌∙◌}
use Rattle.charts.specs.declared.parts.Event.{Event}
use Rattle.charts.specs.Events.{no_event}
use Rattle.words.specs.declared.faults.Fault.{Fault}
use Rattle.words.specs.Sentences.{Sentence}
use Rattle.items.specs.Surveys.{items_in}
use Rattle.texts.specs.Rows.{padded}
use Rattle.texts.specs.Readings.{Answer, lengths_in, rows_in, read_as, greatest}
use Rattle.texts.proofs.Padding.{take_rows}
use Rattle.texts.proofs.Readable.{readable}
use Rattle.piles.specs.Meanings.{Meaning, table_meaning}
use Rattle.plays.specs.ChartTexts.{chart_read, put_on}

-- what is put on is the chart over the rows in use
pub chart_put : (ss : List Sentence) (a : Answer) (lengths : List ℕ) (events : List Event) (n k : ℕ) (S T : List Meaning) → read_as greatest ss ≡ Ok a →
    lengths ≡ padded 0 n (lengths_in (items_in ss)) → events ≡ padded no_event k (rows_in (items_in ss)) →
    table_meaning (take a.instances lengths) (take a.events events) ∷ S ≡ T → put_on S (chart_read ss (read_as greatest ss)) ≡ Ok T
chart_put ss a lengths events n k S T e ns es made =
    let used = readable greatest ss a e in
    ap (λ (x : Result Answer Fault). put_on S (chart_read ss x)) e
    ∙ ap (λ (t : List ℕ). Ok (table_meaning t (rows_in (items_in ss)) ∷ S)) (sym (take_rows 0 n a.instances (lengths_in (items_in ss)) lengths ns used.instances))
    ∙ ap (λ (t : List Event). Ok (table_meaning (take a.instances lengths) t ∷ S)) (sym (take_rows no_event k a.events (rows_in (items_in ss)) events es used.events))
    ∙ ap Ok made
