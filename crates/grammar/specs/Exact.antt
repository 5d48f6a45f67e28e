-- What is read of a text is the chart that it writes.
use Rattle.std.specs.Prelude.{◌≡◌, ℕ, false, List, Ok}
use Rattle.words.specs.Sentences.{Placed, sentences}
use Rattle.words.specs.Reading.{others}
use Rattle.items.specs.Items.{Items, items_from}
use Rattle.items.specs.Parsing.{title_in}
use Rattle.grammar.specs.Texts.{ChartText}
use Rattle.grammar.specs.Writing.{Writes}
use Rattle.grammar.specs.Charts.{chart_by}

-- the items after the text's first sentence, and whether the text then ends as it should
abbrev pub items_after : List ℕ → Items
items_after text = items_from false (others (sentences text))

-- the text is read without a fault, and this is its chart
pub record Reads (text : List ℕ) (c : ChartText) : Type 0 where
  pub title : Placed
  pub titled : title_in (sentences text) ≡ Ok title
  pub ended : (items_after text).outcome ≡ Ok tt
  pub chart : c ≡ chart_by title (items_after text).items

-- a text writes the chart that is read of it, and no other
pub record Exact (text : List ℕ) : Type 0 where
  pub sound : (c : ChartText) → Reads text c → Writes text c
  pub complete : (c : ChartText) → Writes text c → Reads text c
  pub unique : (c d : ChartText) → Writes text c → Writes text d → c ≡ d

-- so does every text
abbrev pub EveryText : Type 0
EveryText = (text : List ℕ) → Exact text
