use Rattle.std.proofs.Common.{rules}
use Rattle.buses.specs.Carried.{based}
use Rattle.buses.proofs.Narrower.{least_counts}
use Rattle.buses.proofs.bus.Bus.narrow.Goals as goal

pub returns : goal.returns
returns c = least_counts c.args.self.room c.args.room c.map_or-least.result (based c.args.self.base) (search rules)
