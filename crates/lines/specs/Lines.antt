-- The lines of a chart's listing.
use Rattle.std.specs.Prelude.{ℕ, cond, List, [], ◌∷◌, take, map, codes, decimal, ◌==◌}
use Rattle.charts.specs.declared.parts.Event.{Event}
use Rattle.charts.specs.declared.kinds.Kind.TheVariants.{Output, Input, Action}
use Rattle.charts.specs.Events.{output, input, action, is_message}
use Rattle.charts.specs.Kinds.{name_of as kind_name}
use Rattle.charts.specs.Lists.{event_of}
use Rattle.charts.specs.Texts.{spaced}
use Rattle.tables.specs.TableLists.{table_lists}
use Rattle.listings.specs.Report.{line}
use Rattle.words.specs.declared.faults.Fault.{Fault}
use Rattle.words.specs.Refusals.{refusal_text}
use Rattle.runs.specs.declared.parts.Verdict.{Verdict}
use Rattle.runs.specs.declared.parts.Verdict.TheVariants.{Runs, Stuck}
use Rattle.lines.specs.declared.listing.Listing.{Listing}
use Rattle.lines.specs.Names.{name_at, unknown}

-- the name of an instance
abbrev pub instance_name : Listing → ℕ → List ℕ
instance_name l i = name_at l.reading.text.now l.instances.now i

-- event k of instance i; zeros where there is none, and in a chart that breaks a rule
abbrev pub event_in : Listing → ℕ → ℕ → Event
event_in l i k = event_of (table_lists l.table.lengths.now l.table.events.now) i k

-- the word for the kind that a byte stands for
abbrev pub kind_word : ℕ → List ℕ
kind_word k = cond (k == output) (kind_name Output) (cond (k == input) (kind_name Input) (cond (k == action) (kind_name Action) unknown))

-- the name of an event's message or action
abbrev pub event_name : Listing → Event → List ℕ
event_name l e =
    cond (is_message e) (name_at l.reading.text.now l.messages.now e.number)
    (cond (e.kind == action) (name_at l.reading.text.now l.actions.now e.number) unknown)

-- a chart's name, and how many instances and events it has
abbrev pub heading_line : Listing → List ℕ
heading_line l =
    line (spaced (codes "chart" ∷ l.reading.title.bytes.now ∷ decimal l.reading.instances ∷ decimal l.reading.events ∷ []))

-- event k of instance i, at a place of an order
abbrev pub event_line : Listing → ℕ → ℕ → ℕ → List ℕ
event_line l place i k =
    line (spaced (decimal place ∷ instance_name l i ∷ kind_word (event_in l i k).kind ∷ event_name l (event_in l i k) ∷ []))

-- that a run comes to its end, or the ring that it gets stuck in: as many instances as the verdict says, at most 32
abbrev pub verdict_line : Listing → Verdict → List ℕ → List ℕ
verdict_line l (Runs n) ring = line (codes "runs")
verdict_line l (Stuck n) ring = line (spaced (codes "stuck" ∷ map (instance_name l) (take 32 (take n ring))))

-- the number of a fault for which a chart text is refused, and its byte
abbrev pub refusal_line : Fault → List ℕ
refusal_line f = line (refusal_text f)
