use Rattle.std.proofs.Common.{◌≡◌, get_or, sym, ◌∙◌, arith}
use Rattle.std.proofs.lemmas.Grind.{common_steps}
use Rattle.tables.proofs.Answering.{counted}
use Rattle.tables.proofs.table.TableChart.count.Goals as goal

pub returns-in-Ok : goal.returns-in-Ok
returns-in-Ok c =
    let t = c.args.self.now in
    let n : c.map_or.result ≡ get_or t.lengths.now c.args.i 0 = grind (arith, common_steps) in
    n ∙ counted t.lengths.now t.events.now c.in-Ok.field-0 c.args.i (sym c.in-Ok.is ∙ t.judged)
