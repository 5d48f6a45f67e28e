-- What a chart text is read as, and what the tables then hold.
use Rattle.std.specs.Prelude.{◌≡◌, ℕ, Bool, cond, ◌&&◌, List, [], ◌∷◌, map, length, replicate, flat_map, Some, None, Option, Ok, Err, Result, option_map, nat_le, ◌==◌}
use Rattle.charts.specs.declared.parts.Event.{Event}
use Rattle.charts.specs.declared.faults.Fault.{Fault as ChartFault}
use Rattle.charts.specs.declared.faults.Rule.{Rule}
use Rattle.charts.specs.declared.faults.Rule.TheVariants.{Repeated, Unmatched}
use Rattle.charts.specs.Events.{no_event}
use Rattle.checks.specs.Choice.{unless, earliest}
use Rattle.checks.specs.Checked.{checked}
use Rattle.words.specs.declared.faults.Cause.TheVariants.{PeerUnknown, ShortTable, Chart}
use Rattle.words.specs.declared.faults.Fault.{Fault}
use Rattle.words.specs.Sentences.{Placed, Sentence}
use Rattle.words.specs.Reading.{placed}
use Rattle.sentences.specs.Wants.{at_byte}
use Rattle.sentences.specs.Events.{EventWords}
use Rattle.items.specs.Items.{Item}
use Rattle.items.specs.Instances.{InstanceWords, instances_in}
use Rattle.items.specs.Surveys.{Size, items_in, surveyed}
use Rattle.texts.specs.declared.rows.Name.{Name}
use Rattle.texts.specs.declared.reading.Reading.{Reading}
use Rattle.texts.specs.Rows.{padded, no_name, row_of}
use Rattle.texts.specs.Directories.{Named, named_in}
use Rattle.texts.specs.Drafts.{numbered, first_unknown}
use Rattle.texts.specs.Starts.{start_at}

-- the events of instances, one instance after another
abbrev pub all_events : List InstanceWords → List EventWords
all_events ns = flat_map (λ n. n.events) ns

-- the chart's lengths, and its events with numbers for their names
abbrev pub lengths_in : List Item → List ℕ
lengths_in is = map (λ n. length n.events) (instances_in is)

abbrev pub rows_in : List Item → List Event
rows_in is = map (numbered (named_in is)) (all_events (instances_in is))

-- the numbers of rows of the five tables
pub record Rooms : Type 0 where
  pub lengths : ℕ
  pub events : ℕ
  pub instances : ℕ
  pub messages : ℕ
  pub actions : ℕ

-- room for every chart: 32 instances, and 4,096 events, messages and actions
abbrev pub greatest : Rooms
greatest = record { lengths = 32; events = 4096; instances = 32; messages = 4096; actions = 4096 }

-- the five tables
pub record Tables : Type 0 where
  pub lengths : List ℕ
  pub events : List Event
  pub instances : List Name
  pub messages : List Name
  pub actions : List Name

-- five tables by their rows
abbrev pub tables : List ℕ → List Event → List Name → List Name → List Name → Tables
tables lengths events instances messages actions = record { lengths = lengths; events = events; instances = instances; messages = messages; actions = actions }

-- their numbers of rows
abbrev pub rooms : Tables → Rooms
rooms t = record { lengths = length t.lengths; events = length t.events; instances = length t.instances; messages = length t.messages; actions = length t.actions }

-- the tables of a text, each with zeros in the rows that are not used
abbrev pub tables_of : Rooms → List Item → Tables
tables_of r is =
    record {
      lengths = padded 0 r.lengths (lengths_in is);
      events = padded no_event r.events (rows_in is);
      instances = padded no_name r.instances (map row_of (named_in is).instances);
      messages = padded no_name r.messages (map row_of (named_in is).messages);
      actions = padded no_name r.actions (map row_of (named_in is).actions);
    }

-- tables of zeros
abbrev pub zeros : Rooms → Tables
zeros r =
    record {
      lengths = replicate r.lengths 0;
      events = replicate r.events no_event;
      instances = replicate r.instances no_name;
      messages = replicate r.messages no_name;
      actions = replicate r.actions no_name;
    }

-- each table has enough rows
abbrev pub enough : Rooms → List Item → Bool
enough r is =
    (nat_le (length (lengths_in is)) r.lengths && nat_le (length (rows_in is)) r.events)
    && (nat_le (length (named_in is).instances) r.instances && (nat_le (length (named_in is).messages) r.messages && nat_le (length (named_in is).actions) r.actions))

-- the fault of a peer that is unknown, where it stands
abbrev pub unknown_fault : Option Placed → Option Fault
unknown_fault p = option_map (λ w. at_byte PeerUnknown w.start) p

-- the rule that the events break, by its number
abbrev pub broken : ℕ → Rule
broken number = cond (number == 17) Repeated Unmatched

-- the fault of the chart, where the event starts
abbrev pub chart_fault : List InstanceWords → Option ChartFault → Option Fault
chart_fault ns f = option_map (λ f. at_byte (Chart (broken f.number)) (start_at f.instance f.event ns)) f

-- why the chart is refused: a table is too short, a peer is unknown, or the chart breaks a rule
abbrev pub refusal : Rooms → List Item → Option Fault
refusal r is =
    earliest
    (unless (enough r is) (at_byte ShortTable 0)
    ∷ unknown_fault (first_unknown (named_in is).instances (all_events (instances_in is)))
    ∷ chart_fault (instances_in is) (checked (lengths_in is) (rows_in is))
    ∷ [])

-- the name of a text, and how many rows of the tables are in use
pub record Answer : Type 0 where
  pub title : Placed
  pub instances : ℕ
  pub events : ℕ
  pub messages : ℕ
  pub actions : ℕ

-- the answer by the size and the names
abbrev pub answer : Size → Named → Answer
answer size s = record { title = size.title; instances = size.instances; events = size.events; messages = length s.messages; actions = length s.actions }

-- the answer, where there is no fault
abbrev pub unless_fault : Option Fault → Answer → Result Answer Fault
unless_fault None a = Ok a
unless_fault (Some f) a = Err f

-- what a text of this size is read as, or its fault
abbrev pub read_sized : Rooms → List Item → Result Size Fault → Result Answer Fault
read_sized r is (Err f) = Err f
read_sized r is (Ok size) = unless_fault (refusal r is) (answer size (named_in is))

-- what a text is read as: first comes what is wrong with its words, sentences and size
abbrev pub read_as : Rooms → List Sentence → Result Answer Fault
read_as r ss = read_sized r (items_in ss) (surveyed ss)

-- the answer in a reading
abbrev pub answer_in : Reading → Answer
answer_in a = record { title = placed a.title; instances = a.instances; events = a.events; messages = a.messages; actions = a.actions }

-- the reading of the text, and the tables that hold its chart; or the text's fault, and tables of zeros
abbrev pub Reads : List Sentence → Rooms → Result Reading Fault → Tables → Type 0
Reads ss r (Ok a) t = (read_as r ss ≡ Ok (answer_in a)) × (t ≡ tables_of r (items_in ss))
Reads ss r (Err f) t = (read_as r ss ≡ Err f) × (t ≡ zeros r)
