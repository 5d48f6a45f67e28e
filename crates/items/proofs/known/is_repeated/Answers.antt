use Rattle.std.proofs.Common.{take, Err, subst}
use Rattle.names.specs.Numbers.{Notes}
use Rattle.words.specs.Sentences.{sentences}
use Rattle.items.specs.Surveys.{names_in, items_in}
use Rattle.items.proofs.Knowing.{noted_knows, full_knows}
use Rattle.items.proofs.known.is_repeated.Goals as goal

pub returns-in-Ok-clause-knows : goal.returns-in-Ok-clause-knows
returns-in-Ok-clause-knows c _ p is =
    noted_knows c.args.names.now c.note.new.self (names_in (take c.args.read (items_in (sentences c.args.text.now)))) c.args.name.now 0 c.requires c.in-Ok.ensures p is

pub returns-in-Err-Full-clause-knows : goal.returns-in-Err-Full-clause-knows
returns-in-Err-Full-clause-knows c _ p is =
    let full = subst (λ r. Notes c.args.names.now c.args.name.now 0 (Err r) c.note.new.self) c.in-Err-Full.field-0-is c.in-Err-Full.ensures in
    full_knows c.args.names.now c.note.new.self (names_in (take c.args.read (items_in (sentences c.args.text.now)))) c.args.name.now 0 c.requires full.1 full.2 p
