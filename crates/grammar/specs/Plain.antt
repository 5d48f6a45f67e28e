-- A plain text of a chart.
use Rattle.std.specs.Prelude.{◌≡◌, ℕ, true, List, [], ◌∷◌, ◌++◌, flat_map}
use Rattle.std.specs.List.{list_all}
use Rattle.grammar.specs.Texts.{ChartText}
use Rattle.grammar.specs.Pieces.{chart_sentences}
use Rattle.grammar.specs.Spelling.{is_word}
use Rattle.grammar.specs.Writing.{names_of_chart, Names, Writes}

-- words, each after a space
abbrev pub plain_words : List (List ℕ) → List ℕ
plain_words ws = flat_map (λ w. 32 ∷ w) ws

-- sentences, each with a semicolon after it
abbrev pub plain_sentences : List (List (List ℕ)) → List ℕ
plain_sentences vss = flat_map (λ ws. plain_words ws ++ (59 ∷ [])) vss

-- the chart's sentences, plainly
abbrev pub plain_text : ChartText → List ℕ
plain_text c = plain_sentences (chart_sentences c)

-- the plain text of a chart writes it, where its names are words and none is the grammar's
abbrev pub EveryChart : Type 0
EveryChart = (c : ChartText) → list_all is_word (names_of_chart c) ≡ true → Names c → Writes (plain_text c) c
