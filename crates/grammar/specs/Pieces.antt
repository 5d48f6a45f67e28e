-- The words and semicolons that write a chart.
use Rattle.std.specs.Prelude.{ℕ, List, [], ◌∷◌, ◌++◌, map, flat_map, Some, None, Option, codes}
use Rattle.grammar.specs.Texts.{EventText, outputs, inputs, acts, InstanceText, ChartText}

-- a word by its bytes, or a semicolon
pub data Piece : Type 0 where
  word : List ℕ → Piece
  semicolon : Piece

-- a peer's word: its name, or `env` for the environment
abbrev pub peer_word : Option (List ℕ) → List ℕ
peer_word None = codes "env"
peer_word (Some p) = p

-- the words of an event
abbrev pub event_sentence : EventText → List (List ℕ)
event_sentence (outputs m p) = codes "out" ∷ m ∷ codes "to" ∷ peer_word p ∷ []
event_sentence (inputs m p) = codes "in" ∷ m ∷ codes "from" ∷ peer_word p ∷ []
event_sentence (acts n) = codes "action" ∷ n ∷ []

-- the heading of an instance, its events and its end
abbrev pub instance_sentences : InstanceText → List (List (List ℕ))
instance_sentences i = (codes "instance" ∷ i.name ∷ []) ∷ (map event_sentence i.events ++ ((codes "endinstance" ∷ []) ∷ []))

-- the heading of the chart, its instances and its end
abbrev pub chart_sentences : ChartText → List (List (List ℕ))
chart_sentences c = (codes "msc" ∷ c.title ∷ []) ∷ (flat_map instance_sentences c.instances ++ ((codes "endmsc" ∷ []) ∷ []))

-- a sentence is its words and a semicolon
abbrev pub sentence_pieces : List (List ℕ) → List Piece
sentence_pieces ws = map word ws ++ (semicolon ∷ [])

-- the pieces of a chart
abbrev pub pieces_of : ChartText → List Piece
pieces_of c = flat_map sentence_pieces (chart_sentences c)
