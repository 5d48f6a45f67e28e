use Rattle.std.proofs.Common.{rules}
use Rattle.recasts.proofs.Turning.{from_most}
use Rattle.recasts.proofs.turn.Turn.first.Goals as goal

pub returns : goal.returns
returns c =
    let t = c.args.self.now in
    let most = from_most t.to c.args.j in
    let back = t.inverse c.args.j c.requires in
    search rules
