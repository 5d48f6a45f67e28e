-- The calls of a script, made on its turns.
use Rattle.std.proofs.Common.{◌≡◌, ℕ, List, [], length, vec_items, Ok, map, refl, sym, ap, ◌∙◌, subst₂}
use Rattle.std.specs.Vec.{with_items}
use Rattle.std.proofs.lemmas.List.{with_items_is}
use Rattle.runs.specs.declared.calls.Turn.{Turn}
use Rattle.runs.specs.Replays.{Replayed}
use Rattle.plays.specs.declared.parts.Script.{Script}
use Rattle.plays.specs.Scripts.{script_of}
use Rattle.plays.specs.Scripted.{Writes}
use Rattle.plays.specs.Logs.{log_content}
use Rattle.plays.specs.Checked.{LogsChecked}
use Rattle.plays.specs.Played.{Played}
use Rattle.plays.specs.declared.parts.Log.{Log}

pub played : (text : List ℕ) (x : Script) (before now : List Turn) (asked said : List Log) → Writes text (Ok (script_of x)) → before ≡ vec_items x.turns → length now ≡ length before →
    ((g : List ℕ) × Replayed (script_of x).chart.trouble (script_of x).medium (script_of x).chart.lists [] before now g) →
    asked ≡ vec_items x.logs → length said ≡ length asked → LogsChecked (script_of x).chart (script_of x).medium (map log_content asked) said →
    Played text (vec_items (with_items x.turns now)) (vec_items (with_items x.logs said))
played text x before now asked said writes was long made logs many checked =
    let s = script_of x in
    record {
      script = s;
      writes = writes;
      turns = vec_items x.turns;
      asked = refl;
      history = made.0;
      replayed =
          subst₂ (λ (xs ys : List Turn). Replayed s.chart.trouble s.medium s.chart.lists [] xs ys made.0) was
          (sym (with_items_is x.turns now (long ∙ ap length was ∙ sym x.turns.ok.0))) made.1;
      checked =
          subst₂ (λ (xs ys : List Log). LogsChecked s.chart s.medium (map log_content xs) ys) logs
          (sym (with_items_is x.logs said (many ∙ ap length logs ∙ sym x.logs.ok.0))) checked;
    }
