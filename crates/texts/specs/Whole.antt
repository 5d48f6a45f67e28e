-- A chart text without a fault in its words, sentences and instances, within the limits of a chart.
use Rattle.std.specs.Prelude.{◌≡◌, ◌≤◌, false, [], length, None, Ok}
use Rattle.words.specs.Sentences.{Placed, Sentence}
use Rattle.words.specs.Reading.{others}
use Rattle.items.specs.Items.{items_from}
use Rattle.items.specs.Parsing.{title_in}
use Rattle.items.specs.Surveys.{names_in, events_in, items_in, first_repeated}
use Rattle.std.specs.Prelude.{List}

pub record Whole (ss : List Sentence) : Type 0 where
  pub title : Placed
  pub begins : title_in ss ≡ Ok title
  pub ends : (items_from false (others ss)).outcome ≡ Ok tt
  pub once : first_repeated [] (names_in (items_in ss)) ≡ None
  pub few_instances : length (names_in (items_in ss)) ≤ 32
  pub few_events : events_in (items_in ss) ≤ 4096
