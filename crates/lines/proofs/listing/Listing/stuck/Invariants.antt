use Rattle.std.proofs.Common.{◌≡◌, ◌≤◌, ◌+◌, ◌*◌, ◌∷◌, length, map, codes, take}
use Rattle.charts.specs.Texts.{spaced}
use Rattle.lines.specs.Lines.{instance_name}
use Rattle.lines.proofs.listing.Listing.stuck.Given as goal

abbrev pub invariant-loop-instance : goal.invariant-loop-instance
invariant-loop-instance l =
    (l.line ≡ spaced (codes "stuck" ∷ map (instance_name l.fn.self) (take l.instance-index l.ring))) × (length l.line ≤ 5 + 17 * l.instance-index)
