use Rattle.std.proofs.Common.{ℕ, subst}
use Rattle.std.specs.Global.{Vec}
use Rattle.std.proofs.lemmas.Result.{IfOk-weaker}
use Rattle.logged.specs.Leading.{Leading}
use Rattle.logged.specs.Taken.{TakenIn}
use Rattle.logged.proofs.Counting.{taken_behind, taken_headless}
use Rattle.logged.proofs.taking.taken.Goals as goal

pub returns-in_default : goal.returns-in_default
returns-in_default c L sound a = taken_headless L sound c.args.log.now c.args.said.now c.in_default.ensures c.new.result.items c.new.ensures.items

pub returns : goal.returns
returns c L sound a =
    let head = c.in-Some.ensures in
    IfOk-weaker c.leading.result (λ (v : Vec ℕ). Leading c.most_taken.result c.in-Some.rest.now v.items) (λ (v : Vec ℕ). TakenIn L c.args.log.now v.items)
    (λ (v : Vec ℕ) l. taken_behind L sound c.args.log.now c.args.said.now a head.0 c.in-Some.rest.now head.1 v.items (subst (λ (n : ℕ). Leading n c.in-Some.rest.now v.items) c.most_taken.ensures l))
    c.leading.ensures
