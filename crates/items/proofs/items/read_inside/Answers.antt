use Rattle.std.proofs.Common.{true, rules}
use Rattle.words.specs.Reading.{left}
use Rattle.items.proofs.Faults.{by_fault, none_left}
use Rattle.items.proofs.items.read_inside.Goals as goal

pub returns-in_err-keyword-clause-reads : goal.returns-in_err-keyword-clause-reads
returns-in_err-keyword-clause-reads c =
    by_fault _ (left c.read_word.new.reader) c.in_err-keyword.field-0.0 c.from_residual.result (search rules)
    (none_left true (left c.args.reader.now) c.in_err-keyword.field-0.0 c.in_err-keyword.ensures.takes.0 c.in_err-keyword.ensures.takes.1)
