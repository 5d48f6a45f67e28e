use Rattle.std.proofs.Common.{rules}
use Rattle.words.specs.Reading.{placed, left}
use Rattle.sentences.proofs.Refusing.{by_fault, refused_name, refused_preposition, refused_peer}
use Rattle.sentences.proofs.events.read_message.Goals as goal

pub returns-in_err-name-clause-reads : goal.returns-in_err-name-clause-reads
returns-in_err-name-clause-reads c =
    by_fault _ (left c.args.reader.now) (left c.read_name.new.reader) c.in_err-name.field-0.0 c.from_residual.result (search rules)
    (refused_name (placed c.args.keyword) c.args.kind c.args.preposition.now (left c.args.reader.now) c.in_err-name.field-0.0 c.in_err-name.ensures.takes)

pub returns-in_err-expect_word-clause-reads : goal.returns-in_err-expect_word-clause-reads
returns-in_err-expect_word-clause-reads c =
    by_fault _ (left c.args.reader.now) (left c.expect_word.new.reader) c.in_err-expect_word.field-0.0 c.from_residual-in_err-expect_word.result (search rules)
    (refused_preposition (placed c.args.keyword) c.args.kind c.args.preposition.now (left c.args.reader.now) c.in_err-expect_word.field-0.0 (placed c.in_ok-name.name) (left c.read_name.new.reader)
    c.in_ok-name.ensures.takes.0 c.in_ok-name.ensures.takes.1 c.in_err-expect_word.ensures.takes)

pub returns-in_err-peer-clause-reads : goal.returns-in_err-peer-clause-reads
returns-in_err-peer-clause-reads c =
    by_fault _ (left c.args.reader.now) (left c.read_peer.new.reader) c.in_err-peer.field-0.0 c.from_residual-in_err-peer.result (search rules)
    (refused_peer (placed c.args.keyword) c.args.kind c.args.preposition.now (left c.args.reader.now) c.in_err-peer.field-0.0 (placed c.in_ok-name.name) (placed c.in_ok-expect_word.field-0)
    (left c.read_name.new.reader) (left c.expect_word.new.reader) c.in_ok-name.ensures.takes.0 c.in_ok-name.ensures.takes.1 c.in_ok-expect_word.ensures.takes.0 c.in_ok-expect_word.ensures.takes.1 c.in_err-peer.ensures.takes)
