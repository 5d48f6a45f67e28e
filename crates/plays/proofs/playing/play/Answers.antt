use Rattle.std.proofs.Common.{rules}
use Rattle.plays.proofs.Making.{played}
use Rattle.plays.proofs.playing.play.Goals as goal

pub returns : goal.returns
returns c =
    played c.args.text.now c.in_ok-chart.field-0 c.as_mut_slice.result.now c.replay-bus.new.turns c.as_mut_slice-2.result.now c.check_all.new.logs
    (search rules) (search rules) (search rules) (search rules) (search rules) (search rules) (search rules)
