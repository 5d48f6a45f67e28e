-- What judge says of a chart text.
use Rattle.std.specs.Prelude.{◌≡◌, ℕ, List, Ok, Err, Result}
use Rattle.charts.specs.declared.parts.Event.{Event}
use Rattle.media.specs.Media.{free}
use Rattle.orders.specs.Orders.{Order, Ended, Full}
use Rattle.orders.specs.Rings.{Ring}
use Rattle.words.specs.declared.faults.Fault.{Fault}
use Rattle.texts.specs.declared.rows.Name.{Name}
use Rattle.texts.specs.Readings.{Answer}
use Rattle.verdicts.specs.declared.answers.Judgement.{Judgement}
use Rattle.verdicts.specs.Answers.{runs, stuck, refused}
use Rattle.verdicts.specs.Charts.{read, lists_of, names_of}

-- no full order exists: there is an order that ends, and the ring is the one of every such order
pub record StuckIn (L : List (List Event)) (ring : List ℕ) : Type 0 where
  pub never : (w : List ℕ) → Full free L w → ⊥
  pub last : List ℕ
  pub order : Order free L last
  pub ended : Ended free L last
  pub everywhere : (w : List ℕ) → Order free L w → Ended free L w → Ring free L w ring

-- what judge says of a new run of a chart with these lists and names, if every message may arrive in any order
pub data Judges (L : List (List Event)) (names : List Name) (j : Judgement) : Type 0 where
  -- a full order exists
  runs_by : (w : List ℕ) → Full free L w → j ≡ runs → Judges L names j
  -- none does
  stuck_by : (ring : List ℕ) → StuckIn L ring → j ≡ stuck names ring → Judges L names j

-- the same of a text that was read, or its fault
abbrev pub JudgesRead : Result Answer Fault → List (List Event) → List Name → Judgement → Type 0
JudgesRead (Ok a) L names j = Judges L names j
JudgesRead (Err f) L names j = j ≡ refused f

-- what judge says of a text
abbrev pub JudgesText : List ℕ → Judgement → Type 0
JudgesText text j = JudgesRead (read text) (lists_of text) (names_of text) j
