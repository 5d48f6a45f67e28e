-- The fault of a text that writes no chart.
use Rattle.std.specs.Prelude.{◌≡◌, ℕ, List, Err}
use Rattle.words.specs.declared.faults.Fault.{Fault}
use Rattle.words.specs.Sentences.{sentences}
use Rattle.grammar.specs.Texts.{ChartText}
use Rattle.grammar.specs.Writing.{Writes}
use Rattle.texts.specs.Static.{Static}
use Rattle.texts.specs.Readings.{read_as, greatest}

-- the text writes no chart that keeps the static requirements, and this is its first fault
pub record FirstFault (text : List ℕ) (f : Fault) : Type 0 where
  pub unwritten : (c : ChartText) → Writes text c → Static c → ⊥
  pub first : read_as greatest (sentences text) ≡ Err f
