use Rattle.std.proofs.Common.{arith, codes}
use Rattle.lines.specs.Lines.{instance_name}
use Rattle.lines.proofs.Spacing.{spaced_more}
use Rattle.lines.proofs.listing.Listing.stuck.Goals as goal

pub loop-instance-preserved : goal.loop-instance-preserved
loop-instance-preserved c =
    let more = spaced_more (instance_name c.args.self.now) (codes "stuck") c.args.ring.now c.loop-instance.instance-index 0 (omega arith) in
    (cc, omega arith)
