-- The lines of a listing that is judged.
use Rattle.std.specs.Prelude.{◌≡◌, ℕ, ◌+◌, List, [], ◌∷◌, ◌++◌, length, take, Ok, Err, Result}
use Rattle.charts.specs.declared.parts.Event.{Event}
use Rattle.media.specs.Media.{free}
use Rattle.orders.specs.Histories.{pos}
use Rattle.tables.specs.TableLists.{table_lists}
use Rattle.runs.specs.declared.parts.Verdict.{Verdict}
use Rattle.runs.specs.declared.parts.Verdict.TheVariants.{Runs, Stuck}
use Rattle.runs.specs.Verdicts.{Judges}
use Rattle.words.specs.declared.faults.Fault.{Fault}
use Rattle.words.specs.Sentences.{sentences}
use Rattle.texts.specs.Readings.{Answer, greatest, answer_in, read_as, tables_of}
use Rattle.items.specs.Surveys.{items_in}
use Rattle.lines.specs.declared.listing.Listing.{Listing}
use Rattle.lines.specs.Listings.{HoldsRows}
use Rattle.lines.specs.Lines.{heading_line, event_line, verdict_line, refusal_line}

-- the chart of a listing
abbrev pub chart_in : Listing → List (List Event)
chart_in l = table_lists l.table.lengths.now l.table.events.now

-- the lines of the steps w made after h: each with its place from 1, and the next event of its instance
abbrev pub step_lines : Listing → List ℕ → List ℕ → List ℕ
step_lines l h [] = []
step_lines l h (i ∷ w) = event_line l (length h + 1) i (pos h i) ++ step_lines l (h ++ (i ∷ [])) w

-- the lines of the steps that a verdict wrote, none where it wrote a ring
abbrev pub order_lines : Listing → Verdict → List ℕ → List ℕ
order_lines l (Runs n) out = step_lines l [] (take n out)
order_lines l (Stuck n) out = []

-- a verdict on a new run over the free medium, with what it wrote, and the lines of both after the heading
pub record ShowsVerdict (l : Listing) (bytes : List ℕ) : Type 0 where
  pub verdict : Verdict
  pub before : List ℕ
  pub written : List ℕ
  pub judges : Judges free (chart_in l) [] before verdict written
  pub bytes_are : bytes ≡ heading_line l ++ (order_lines l verdict written ++ verdict_line l verdict written)

-- the listing of a text's tables
pub record ListsText (text : List ℕ) (a : Answer) (l : Listing) : Type 0 where
  pub text_is : l.reading.text.now ≡ text
  pub answer_is : answer_in l.reading ≡ a
  pub holds : let t = tables_of greatest (items_in (sentences text)) in HoldsRows l.reading t.lengths t.events t.instances t.messages t.actions l

-- the lines of a text that is read as a chart, or the line of its fault
abbrev pub ShowsRead : List ℕ → Result Answer Fault → List ℕ → Type 0
ShowsRead text (Ok a) bytes = (l : Listing) × ListsText text a l × ShowsVerdict l bytes
ShowsRead text (Err f) bytes = bytes ≡ refusal_line f

-- the lines of a text
abbrev pub Shows : List ℕ → List ℕ → Type 0
Shows text bytes = ShowsRead text (read_as greatest (sentences text)) bytes
