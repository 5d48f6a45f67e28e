use Rattle.std.proofs.Common.{false, sym, ◌∙◌, rules}
use Rattle.words.specs.Reading.{left, placed}
use Rattle.items.proofs.Faults.{by_fault, none_left, no_heading}
use Rattle.items.proofs.items.read_outside.Goals as goal

pub returns-in_err-keyword-clause-reads : goal.returns-in_err-keyword-clause-reads
returns-in_err-keyword-clause-reads c =
    by_fault _ (left c.read_word.new.reader) c.in_err-keyword.field-0.0 c.from_residual.result (search rules)
    (none_left false (left c.args.reader.now) c.in_err-keyword.field-0.0 c.in_err-keyword.ensures.takes.0 c.in_err-keyword.ensures.takes.1)

pub returns-in_err-name-clause-reads : goal.returns-in_err-name-clause-reads
returns-in_err-name-clause-reads c =
    by_fault _ (left c.read_name.new.reader) c.in_err-name.field-0.0 c.from_residual-in_err-name.result (search rules)
    (no_heading (placed c.in_ok-keyword.keyword) (left c.args.reader.now) (left c.read_word.new.reader) c.in_err-name.field-0.0 c.in_ok-keyword.ensures.takes
    (sym c.is.ensures ∙ c.if-is.true) c.in_err-name.ensures.takes)
