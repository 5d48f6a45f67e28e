use Rattle.texts.specs.Roomy.{held}
use Rattle.verdicts.proofs.Readable.{in_use}
use Rattle.verdicts.proofs.charted.Charted.of.Goals as goal

pub invariant_of-result-clause-sound : goal.invariant_of-result-clause-sound
invariant_of-result-clause-sound c =
    let read = c.in_ok-reading in
    let e = read.ensures.reads in
    (in_use c.args.text.now _ (held read.tables) e.0 e.1).sound

pub returns : goal.returns
returns c =
    let read = c.in_ok-reading in
    let e = read.ensures.reads in
    let u = in_use c.args.text.now _ (held read.tables) e.0 e.1 in
    ((_, e.0), record { lengths = u.lengths_are; events = u.events_are; names = u.names_are })
