-- What is told of a chart text, in the text's own names.
use Rattle.std.specs.Prelude.{◌≡◌, ℕ, ◌+◌, List, [], ◌∷◌, ◌++◌, length, map, codes, decimal, slice_get, Some}
use Rattle.charts.specs.Texts.{spaced}
use Rattle.media.specs.Media.{free}
use Rattle.orders.specs.Histories.{pos}
use Rattle.orders.specs.Orders.{Order, Ended, Full}
use Rattle.orders.specs.Drives.{Lowest}
use Rattle.orders.specs.Rings.{Ring}
use Rattle.listings.specs.Report.{line}
use Rattle.words.specs.declared.faults.Fault.{Fault}
use Rattle.grammar.specs.Texts.{EventText, outputs, inputs, acts, InstanceText, ChartText}
use Rattle.grammar.specs.Writing.{Writes}
use Rattle.texts.specs.Names.{events_in, instance_names}
use Rattle.texts.specs.Charted.{lists_of}
use Rattle.texts.specs.Static.{Static}
use Rattle.texts.specs.FirstFault.{FirstFault}
use Rattle.lines.specs.Lines.{refusal_line}

-- the word for an event's kind, and its message or action
abbrev pub event_words : EventText → List (List ℕ)
event_words (outputs m p) = codes "out" ∷ m ∷ []
event_words (inputs m p) = codes "in" ∷ m ∷ []
event_words (acts n) = codes "action" ∷ n ∷ []

-- the chart's name, and how many instances and events it has
abbrev pub chart_line : ChartText → List ℕ
chart_line c = line (spaced (codes "chart" ∷ c.title ∷ decimal (length c.instances) ∷ decimal (length (events_in c)) ∷ []))

-- an event of an instance, at a place of an order
abbrev pub step_line : ℕ → InstanceText → EventText → List ℕ
step_line place n e = line (spaced (decimal place ∷ n.name ∷ event_words e))

-- the lines of the steps made after h: each has its place, from 1, and the next event of its instance
pub data TellsSteps (c : ChartText) : List ℕ → List ℕ → List ℕ → Type 0 where
  none : (h : List ℕ) → TellsSteps c h [] []
  step : (h w bytes : List ℕ) (i : ℕ) (n : InstanceText) (e : EventText) → slice_get c.instances i ≡ Some n → slice_get n.events (pos h i) ≡ Some e → TellsSteps c (h ++ (i ∷ [])) w bytes →
      TellsSteps c h (i ∷ w) (step_line (length h + 1) n e ++ bytes)

-- the chart has a full order over the free medium: told are its name, the full order each step of which is the lowest that may run, and that it runs
pub record TellsOrder (c : ChartText) (bytes : List ℕ) : Type 0 where
  pub order : List ℕ
  pub full : Full free (lists_of c) order
  pub lowest : Lowest free (lists_of c) [] order
  pub steps : List ℕ
  pub tells : TellsSteps c [] order steps
  pub bytes_are : bytes ≡ chart_line c ++ (steps ++ line (codes "runs"))

-- it has none: told are its name, and by their names the ring of instances that wait for each other at the end of every order that cannot go on
pub record TellsRing (c : ChartText) (bytes : List ℕ) : Type 0 where
  pub never : (f : List ℕ) → Full free (lists_of c) f → ⊥
  pub rest : List ℕ
  pub lowest : Lowest free (lists_of c) [] rest
  pub ended : Ended free (lists_of c) rest
  pub ring : List ℕ
  pub ring_there : Ring free (lists_of c) rest ring
  pub ring_everywhere : (v : List ℕ) → Order free (lists_of c) v → Ended free (lists_of c) v → Ring free (lists_of c) v ring
  pub names : List (List ℕ)
  pub named : map (slice_get (instance_names c)) ring ≡ map Some names
  pub bytes_are : bytes ≡ chart_line c ++ line (spaced (codes "stuck" ∷ names))

-- the lines of a text
pub data TellsText (text bytes : List ℕ) : Type 0 where
  -- it writes a chart that keeps the static requirements, and runs
  runs : (c : ChartText) → Writes text c → Static c → TellsOrder c bytes → TellsText text bytes
  -- or one that gets stuck
  gets_stuck : (c : ChartText) → Writes text c → Static c → TellsRing c bytes → TellsText text bytes
  -- or it writes no such chart: told is the number of its first fault, and the byte where it stands
  refused : (f : Fault) → FirstFault text f → bytes ≡ refusal_line f → TellsText text bytes
