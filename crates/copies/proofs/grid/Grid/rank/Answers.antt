use Rattle.std.proofs.Common.{◌≡◌, subst, arith}
use Rattle.copies.proofs.Rerankings.{RankedTo, same_lists, still_mated, both_times, ranked_more, all_ranked}
use Rattle.copies.proofs.grid.Grid.rank.Goals as goal

pub rank_column-requires-clause-mated : goal.rank_column-requires-clause-mated
rank_column-requires-clause-mated c = still_mated c.args.self.now c.loop-i.self c.loop-i.invariant.same c.requires

pub loop-i-preserved : goal.loop-i-preserved
loop-i-preserved c =
    let g = c.args.self.now in
    let h = c.loop-i.self in
    let n = c.rank_column.new.self in
    let so = c.loop-i.invariant in
    let own = c.rank_column.ensures in
    record { same = both_times g h n so.same own.same; ranked = ranked_more g h n so.same c.loop-i.i c.loop-i-test.true so.ranked own.ranked own.before }

pub returns : goal.returns
returns c =
    let g = c.args.self.now in
    let h = c.loop-i.self in
    let so = c.loop-i.invariant in
    let end : c.loop-i.i ≡ g.width = omega arith in
    record { lists = same_lists g h so.same; mated = still_mated g h so.same c.requires; ranked = all_ranked g h so.same (subst (RankedTo g h) end so.ranked) }
