-- What a script asks for: the meanings of its chart and its medium, and what its turns and its logs hold.
use Rattle.std.specs.Prelude.{List, map, vec_items}
use Rattle.media.specs.Carry.{Carry}
use Rattle.buses.specs.Carried.{carried}
use Rattle.piles.specs.Meanings.{Meaning, flat_meaning}
use Rattle.plays.specs.declared.parts.Script.{Script as ScriptText}
use Rattle.plays.specs.Turns.{Content, content}
use Rattle.plays.specs.Logs.{LogContent, log_content}

pub record Script : Type 0 where
  pub chart : Meaning
  pub medium : Carry
  pub turns : List Content
  pub logs : List LogContent

-- the chart a, the medium M, the turns xs and the logs ls
abbrev pub script : Meaning → Carry → List Content → List LogContent → Script
script a M xs ls = record { chart = a; medium = M; turns = xs; logs = ls }

-- what a script asks for that was read
abbrev pub script_of : ScriptText → Script
script_of s = script (flat_meaning s.chart) (carried s.bus) (map content (vec_items s.turns)) (map log_content (vec_items s.logs))
