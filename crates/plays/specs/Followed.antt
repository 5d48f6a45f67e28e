-- What a statement does to a plan, to the stack of charts, and to the lines behind it.
use Rattle.std.specs.Prelude.{Bool, true, false, ◌&&◌, cond, List, [], ◌∷◌, Ok, Err, Result}
use Rattle.piletexts.specs.Blocks.{text_until}
use Rattle.piles.specs.Meanings.{Meaning}
use Rattle.piles.specs.Applied.{Standing, applied}
use Rattle.scripts.specs.Statements.{Said, to_pile, a_text, to_medium, a_log, a_call}
use Rattle.plays.specs.declared.parts.Part.{Part}
use Rattle.plays.specs.declared.parts.Part.TheVariants.{Pile as PilePart, Medium as MediumPart, Calls as CallsPart}
use Rattle.plays.specs.Troubles.{Trouble, at_line, lined}
use Rattle.plays.specs.ChartTexts.{texted}
use Rattle.plays.specs.Plans.{Plan, with_medium, with_log, with_call}

-- whether there is a chart to run
abbrev pub has_chart : List Meaning → Bool
has_chart [] = false
has_chart (a ∷ S) = true

-- whether the medium was not begun yet, and no call was made and no log checked
abbrev pub before_medium : Part → Bool
before_medium PilePart = true
before_medium MediumPart = false
before_medium CallsPart = false

-- whether no call was made and no log checked yet
abbrev pub before_calls : Part → Bool
before_calls PilePart = true
before_calls MediumPart = true
before_calls CallsPart = false

-- a plan, with the stack and the lines that are left
pub record State : Type 0 where
  pub plan : Plan
  pub standing : Standing

-- a plan with a stack and lines
abbrev pub state : Plan → Standing → State
state p s = record { plan = p; standing = s }

-- with what a statement made of the stack and the lines
abbrev pub stacked_on : Plan → Result Standing Trouble → Result State Trouble
stacked_on p (Err t) = Err t
stacked_on p (Ok s) = Ok (state p s)

-- what comes of a statement, or the line that cannot be read or the fault of its text
abbrev pub followed : Said → Plan → Standing → Result State Trouble
followed (to_pile c) p s = cond (before_medium p.part) (stacked_on p (lined (applied c s))) (Err (at_line s.number))
followed a_text p s = cond (before_medium p.part) (stacked_on p (texted s.stack (text_until s.number s.lines))) (Err (at_line s.number))
followed (to_medium m) p s = cond (before_calls p.part && has_chart s.stack) (Ok (state (with_medium p m) s)) (Err (at_line s.number))
followed (a_log bytes) p s = cond (has_chart s.stack) (Ok (state (with_log p bytes) s)) (Err (at_line s.number))
followed (a_call c) p s = cond (has_chart s.stack) (Ok (state (with_call p c.0 c.1) s)) (Err (at_line s.number))
