use Rattle.std.proofs.Common.{rules}
use Rattle.words.specs.Reading.{left}
use Rattle.sentences.proofs.Refusing.{by_fault, refused_action}
use Rattle.sentences.proofs.events.read_action.Goals as goal

pub returns-in_err-name-clause-reads : goal.returns-in_err-name-clause-reads
returns-in_err-name-clause-reads c = by_fault _ (left c.args.reader.now) (left c.read_name.new.reader) c.in_err-name.field-0.0 c.from_residual.result (search rules) (refused_action c.args.keyword.start (left c.args.reader.now) c.in_err-name.field-0.0 c.in_err-name.ensures.takes)
