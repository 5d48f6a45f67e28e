use Rattle.std.proofs.Common.{rules, arith}
use Rattle.replies.specs.ScriptLines.{script_lines}
use Rattle.replies.proofs.Writing.{log_more, logs_done}
use Rattle.replies.proofs.lines.ScriptDisplay.fmt.Goals as goal

pub loop-log-preserved : goal.loop-log-preserved
loop-log-preserved g c plain =
    let l = c.loop-log in
    let logs = c.args.self.now.logs.now in
    log_more g.W.Write.write_str_gives c.args.f.now (script_lines c.args.self.now.turns.now logs) l.f c.write.new.self l.shown l.log-index
    l.left.now c.split.result.0.now c.split.result.1.now logs c.log-item.result (l.invariant plain) (omega arith) c.log-item.is
    (search rules) (search rules) (search rules)

pub returns-clause-writes : goal.returns-clause-writes
returns-clause-writes g c plain ok =
    let l = c.loop-log in
    let logs = c.args.self.now.logs.now in
    logs_done g.W.Write.write_str_gives c.args.f.now (script_lines c.args.self.now.turns.now logs) l.f c.write-2.new.self l.shown l.log-index
    l.left.now logs (l.invariant plain) (omega arith) (search rules)
