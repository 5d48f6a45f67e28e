use Rattle.std.proofs.Common.{ℕ}
use Rattle.std.specs.Global.{Vec}
use Rattle.std.proofs.lemmas.Result.{IfOk-weaker}
use Rattle.logged.specs.Shown.{Shows}
use Rattle.logged.specs.Told.{TellsLog}
use Rattle.logged.proofs.Telling.{tells}
use Rattle.logged.proofs.logging.logged_lines.Goals as goal

pub returns-clause-tells : goal.returns-clause-tells
returns-clause-tells c =
    IfOk-weaker c.shown_lines.result (λ (lines : Vec ℕ). Shows c.args.text.now c.args.log.now lines.items) (λ (lines : Vec ℕ). TellsLog c.args.text.now c.args.log.now lines.items)
    (λ (lines : Vec ℕ). tells c.args.text.now c.args.log.now lines.items) c.shown_lines.ensures
