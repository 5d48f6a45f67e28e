-- What the lines of a script say beside the charts: the part that was begun last, a medium, turns, and logs.
use Rattle.std.specs.Prelude.{ℕ, List, [], ◌∷◌, ◌++◌, length, map, vec_items}
use Rattle.media.specs.Carry.{Carry}
use Rattle.media.specs.Media.{free, line, narrow}
use Rattle.buses.specs.Carried.{carried}
use Rattle.runs.specs.declared.calls.Call.{Call}
use Rattle.scripts.specs.declared.parts.MediumCommand.{MediumCommand}
use Rattle.scripts.specs.declared.parts.MediumCommand.TheVariants.{Free, Line, Narrow}
use Rattle.plays.specs.declared.parts.Part.{Part}
use Rattle.plays.specs.declared.parts.Part.TheVariants.{Pile, Medium, Calls}
use Rattle.plays.specs.declared.draft.Draft.{Draft}
use Rattle.plays.specs.Turns.{Content, content, untaken}
use Rattle.plays.specs.Logs.{LogContent, log_content, unchecked}

pub record Plan : Type 0 where
  pub part : Part
  pub medium : Carry
  pub turns : List Content
  pub logs : List LogContent

-- the part p, the medium M, the turns xs and the logs ls
abbrev pub plan : Part → Carry → List Content → List LogContent → Plan
plan p M xs ls = record { part = p; medium = M; turns = xs; logs = ls }

-- before the first line; without a line on it the medium is free
abbrev pub fresh : Plan
fresh = plan Pile free [] []

-- the medium M after a command: `free` and `line` begin it anew, and each narrowing goes over the medium so far
abbrev pub changed : Carry → MediumCommand → Carry
changed M Free = free
changed M Line = line
changed M (Narrow c) = narrow c M

-- after a command to the medium
abbrev pub with_medium : Plan → MediumCommand → Plan
with_medium p m = plan Medium (changed p.medium m) p.turns p.logs

-- after a call
abbrev pub with_call : Plan → Call → ℕ → Plan
with_call p c room = plan Calls p.medium (p.turns ++ untaken c room ∷ []) p.logs

-- after a log, which stands behind the calls so far
abbrev pub with_log : Plan → List ℕ → Plan
with_log p bytes = plan Calls p.medium p.turns (p.logs ++ unchecked (length p.turns) bytes ∷ [])

-- what a draft holds
abbrev pub plan_of : Draft → Plan
plan_of d = plan d.part (carried d.bus) (map content (vec_items d.turns)) (map log_content (vec_items d.logs))
