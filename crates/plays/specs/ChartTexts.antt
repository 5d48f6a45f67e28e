-- A chart text among the lines of a script, and the chart that it puts on the stack.
use Rattle.std.specs.Prelude.{ℕ, List, ◌∷◌, Ok, Err, Result}
use Rattle.words.specs.declared.faults.Fault.{Fault}
use Rattle.words.specs.Sentences.{Sentence, sentences}
use Rattle.items.specs.Surveys.{items_in}
use Rattle.texts.specs.Readings.{Answer, greatest, lengths_in, rows_in, read_as}
use Rattle.piletexts.specs.Blocks.{UpTo}
use Rattle.piles.specs.Meanings.{Meaning, table_meaning}
use Rattle.piles.specs.Applied.{Standing, standing}
use Rattle.plays.specs.Troubles.{Trouble, at_line, in_text}

-- the chart over a text's lengths and events
abbrev pub chart_over : List Sentence → Meaning
chart_over ss = table_meaning (lengths_in (items_in ss)) (rows_in (items_in ss))

-- the chart, where the text is read; else its fault
abbrev pub chart_read : List Sentence → Result Answer Fault → Result Meaning Fault
chart_read ss (Ok a) = Ok (chart_over ss)
chart_read ss (Err f) = Err f

-- the chart of a text, or the text's fault
abbrev pub chart_of : List ℕ → Result Meaning Fault
chart_of text = chart_read (sentences text) (read_as greatest (sentences text))

-- the chart is put on
abbrev pub put_on : List Meaning → Result Meaning Fault → Result (List Meaning) Trouble
put_on S (Ok a) = Ok (a ∷ S)
put_on S (Err f) = Err (in_text f)

-- the stack, with the lines behind the text
abbrev pub behind_text : UpTo (List ℕ) → Result (List Meaning) Trouble → Result Standing Trouble
behind_text u (Ok S) = Ok (standing S u.number u.behind)
behind_text u (Err t) = Err t

-- the chart of the text that was found is put on
abbrev pub texted : List Meaning → Result (UpTo (List ℕ)) ℕ → Result Standing Trouble
texted S (Ok u) = behind_text u (put_on S (chart_of u.found))
texted S (Err n) = Err (at_line n)
