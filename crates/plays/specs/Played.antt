-- What the calls and the logs of a text come to.
use Rattle.std.specs.Prelude.{◌≡◌, ℕ, List, [], map, vec_items, Ok, Err, Result}
use Rattle.runs.specs.declared.calls.Turn.{Turn}
use Rattle.runs.specs.Replays.{Replayed}
use Rattle.plays.specs.declared.parts.Log.{Log}
use Rattle.plays.specs.declared.parts.Played.{Played as PlayedScript}
use Rattle.plays.specs.declared.parts.Unplayed.{Unplayed}
use Rattle.plays.specs.declared.parts.Unplayed.TheVariants.{Line, Text, Memory}
use Rattle.plays.specs.Troubles.{at_line, in_text}
use Rattle.plays.specs.Turns.{content}
use Rattle.plays.specs.Scripts.{Script}
use Rattle.plays.specs.Scripted.{Writes}
use Rattle.plays.specs.Checked.{LogsChecked}

-- the text writes a script; its turns, taken one after another on a new run of its chart over its medium, have become ys; and its logs, each checked on a new run of these, have become ls
pub record Played (text : List ℕ) (ys : List Turn) (ls : List Log) : Type 0 where
  pub script : Script
  pub writes : Writes text (Ok script)
  -- the turns before any was taken
  pub turns : List Turn
  pub asked : map content turns ≡ script.turns
  pub history : List ℕ
  pub replayed : Replayed script.chart.trouble script.medium script.chart.lists [] turns ys history
  pub checked : LogsChecked script.chart script.medium script.logs ls

-- the answer is what the calls and the logs of the text come to, or the text's first trouble; only a want of memory says nothing
abbrev pub Plays : List ℕ → Result PlayedScript Unplayed → Type 0
Plays text (Ok p) = Played text (vec_items p.turns) (vec_items p.logs)
Plays text (Err (Line n)) = Writes text (Err (at_line n))
Plays text (Err (Text f)) = Writes text (Err (in_text f))
Plays text (Err Memory) = Unit {0}
