use Rattle.std.proofs.Common.{◌≡◌, ◌∷◌, length, refl, ap, arith, false-eqb}
use Rattle.piletexts.specs.Lines.{lines_of}
use Rattle.piletexts.proofs.Taking.{line_taken}
use Rattle.piletexts.proofs.lines.LinesIterator.next.Goals as goal

pub returns-clause-steps : goal.returns-clause-steps
returns-clause-steps c =
    (line_taken c.args.self.now.rest.now c.cut.result.0.now c.cut.result.1 c.unwrap_or-self.result _ (omega (arith, false-eqb _ 0 c.if-is_empty.ensures)) c.cut.ensures.value c.unwrap_or-self.ensures refl, refl)

pub returns-clause-goes : goal.returns-clause-goes
returns-clause-goes c =
    let taken = line_taken c.args.self.now.rest.now c.cut.result.0.now c.cut.result.1 c.unwrap_or-self.result _ (omega (arith, false-eqb _ 0 c.if-is_empty.ensures)) c.cut.ensures.value c.unwrap_or-self.ensures refl in
    let fewer : length (lines_of c.args.self.now.rest.now) ≡ length (c.cut.result.0.now ∷ lines_of c.unwrap_or-self.result.now) = ap length taken in
    record { on = λ _. (tt, tt, (omega arith)); keeps = tt; rests = λ _. tt }
