-- What the tables of a chart text hold.
use Rattle.std.specs.Prelude.{◌≡◌, ℕ, ◌+◌, ◌≤◌, List, All, length, map, take, drop, None}
use Rattle.charts.specs.Events.{no_event}
use Rattle.charts.specs.Lists.{size}
use Rattle.checks.specs.Cut.{in_one}
use Rattle.checks.specs.Checked.{checked}
use Rattle.tables.specs.TableLists.{table_lists}
use Rattle.grammar.specs.Texts.{ChartText}
use Rattle.texts.specs.declared.rows.Name.{Name}
use Rattle.texts.specs.Rows.{padded, no_name}
use Rattle.texts.specs.Readings.{Tables, Answer}
use Rattle.texts.specs.Names.{instance_names, message_names, action_names}
use Rattle.texts.specs.Charted.{lists_of}

-- the bytes of the text that a row stands for
abbrev pub bytes_at : List ℕ → Name → List ℕ
bytes_at text r = take r.length (drop r.start text)

-- the first rows of the table lie in the text and stand for these names, and the others are not used
pub record StandFor (text : List ℕ) (table : List Name) (names : List (List ℕ)) : Type 0 where
  pub rows : List Name
  pub table_is : table ≡ padded no_name (length table) rows
  pub within : All (λ r. r.start + r.length ≤ length text) rows
  pub names_are : map (bytes_at text) rows ≡ names

-- the answer and the tables are of this chart
pub record Builds (text : List ℕ) (c : ChartText) (a : Answer) (t : Tables) : Type 0 where
  -- the chart, and zeros in the rows that are not used
  pub lengths : t.lengths ≡ padded 0 (length t.lengths) (map length (lists_of c))
  pub events : t.events ≡ padded no_event (length t.events) (in_one (lists_of c))
  -- the names, in the order of their numbers
  pub instances : StandFor text t.instances (instance_names c)
  pub messages : StandFor text t.messages (message_names c)
  pub actions : StandFor text t.actions (action_names c)
  -- the chart's name, and how many rows are in use
  pub title : a.title.bytes ≡ c.title
  pub instance_count : a.instances ≡ length (lists_of c)
  pub event_count : a.events ≡ size (lists_of c)
  pub message_count : a.messages ≡ length (message_names c)
  pub action_count : a.actions ≡ length (action_names c)
  -- the table over the rows in use has no fault, and is the chart
  pub faultless : checked (map length (lists_of c)) (in_one (lists_of c)) ≡ None
  pub chart : table_lists (map length (lists_of c)) (in_one (lists_of c)) ≡ lists_of c
