-- The relation between a text and the chart that it writes.
use Rattle.std.specs.Prelude.{◌≡◌, ℕ, Bool, true, not, List, [], ◌∷◌, flat_map, Some, None, Option}
use Rattle.std.specs.List.{list_all}
use Rattle.sentences.specs.Wants.{reserved}
use Rattle.grammar.specs.Texts.{EventText, outputs, inputs, acts, InstanceText, ChartText}
use Rattle.grammar.specs.Pieces.{pieces_of}
use Rattle.grammar.specs.Spelling.{Spells}

-- the name of a peer, none of the environment
abbrev pub names_of_peer : Option (List ℕ) → List (List ℕ)
names_of_peer None = []
names_of_peer (Some p) = p ∷ []

-- the names in an event
abbrev pub names_of_event : EventText → List (List ℕ)
names_of_event (outputs m p) = m ∷ names_of_peer p
names_of_event (inputs m p) = m ∷ names_of_peer p
names_of_event (acts n) = n ∷ []

-- the names in an instance
abbrev pub names_of_instance : InstanceText → List (List ℕ)
names_of_instance i = i.name ∷ flat_map names_of_event i.events

-- the names in a chart
abbrev pub names_of_chart : ChartText → List (List ℕ)
names_of_chart c = c.title ∷ flat_map names_of_instance c.instances

-- no word of the grammar
abbrev pub is_name : List ℕ → Bool
is_name n = not (reserved n)

-- no name in the chart is a word of the grammar
abbrev pub Names : ChartText → Type 0
Names c = list_all is_name (names_of_chart c) ≡ true

-- the text writes the chart
pub record Writes (text : List ℕ) (c : ChartText) : Type 0 where
  pub spelled : Spells text (pieces_of c)
  pub named : Names c
