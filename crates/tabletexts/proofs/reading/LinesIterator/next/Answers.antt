use Rattle.std.proofs.Common.{refl}
use Rattle.tabletexts.proofs.Turns.{first_line}
use Rattle.tabletexts.proofs.reading.LinesIterator.next.Goals as goal

pub returns-clause-steps : goal.returns-clause-steps
returns-clause-steps c =
    first_line c.args.self.now.0.now c.cut.result.0.now c.cut.result.1 c.unwrap_or-self.result _ c.cut.ensures.value c.unwrap_or-self.ensures refl
