use Rattle.std.proofs.Common.{sym, subst, slice_set, arith}
use Rattle.words.specs.Reading.{placed}
use Rattle.texts.specs.declared.rows.Name.{Name}
use Rattle.texts.specs.Noting.{Lists}
use Rattle.texts.specs.Numbering.{added}
use Rattle.texts.proofs.Noted.{noted_next}
use Rattle.texts.proofs.noting.note_name.Goals as goal

pub returns-clause-notes : goal.returns-clause-notes
returns-clause-notes c = λ ns few l.
    let n = placed c.args.word in
    let written = noted_next c.args.names.now c.note.new.self c.args.rows.now ns n c.len-number.result l c.in-Ok.ensures c.len-number.ensures.value (let x = c.if-number-rows.false in omega arith) in
    subst (λ (r : Name). Lists c.note.new.self (slice_set c.args.rows.now c.len-number.result r) (added ns n)) (sym c.of.ensures) written
