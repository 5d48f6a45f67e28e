use Rattle.logs.proofs.OneRecord.{flaw_not_one}
use Rattle.logs.proofs.reading.read_one.Goals as goal

pub returns-in-Err : goal.returns-in-Err
returns-in-Err c = flaw_not_one c.args.bytes.now c.in-Err.flaw c.from.result c.from.ensures c.in-Err.ensures.reads
