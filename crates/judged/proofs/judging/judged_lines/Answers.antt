use Rattle.std.proofs.Common.{ℕ}
use Rattle.std.specs.Global.{Vec}
use Rattle.std.proofs.lemmas.Result.{IfOk-weaker}
use Rattle.judged.specs.Shown.{Shows}
use Rattle.judged.specs.Told.{TellsText}
use Rattle.judged.proofs.Matching.{tells}
use Rattle.judged.proofs.judging.judged_lines.Goals as goal

pub returns-clause-tells : goal.returns-clause-tells
returns-clause-tells c =
    IfOk-weaker c.shown_lines.result (λ (lines : Vec ℕ). Shows c.args.text.now lines.items) (λ (lines : Vec ℕ). TellsText c.args.text.now lines.items)
    (λ (lines : Vec ℕ). tells c.args.text.now lines.items) c.shown_lines.ensures
