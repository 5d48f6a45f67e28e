-- What a chart text is read as, where a refusal says nothing of the tables.
use Rattle.std.specs.Prelude.{◌≡◌, List, Ok, Err, Result}
use Rattle.words.specs.declared.faults.Fault.{Fault}
use Rattle.words.specs.Sentences.{Sentence}
use Rattle.items.specs.Surveys.{items_in}
use Rattle.texts.specs.declared.reading.Reading.{Reading}
use Rattle.texts.specs.Readings.{Rooms, Tables, read_as, answer_in, tables_of}

abbrev pub ReadsOrRefuses : List Sentence → Rooms → Result Reading Fault → Tables → Type 0
ReadsOrRefuses ss r (Ok a) t = (read_as r ss ≡ Ok (answer_in a)) × (t ≡ tables_of r (items_in ss))
ReadsOrRefuses ss r (Err f) t = read_as r ss ≡ Err f
