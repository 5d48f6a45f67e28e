use Rattle.std.proofs.Common.{◌≡◌, ℕ, arith, rules}
use Rattle.joining.specs.Recast.{from}
use Rattle.recasts.proofs.Turning.{from_fn_each}
use Rattle.recasts.proofs.turn.Turn.new.Goals as goal

pub invariant_of-result-clause-inverse : goal.invariant_of-result-clause-inverse
invariant_of-result-clause-inverse c =
    λ j h. from_fn_each _ _ c.from_fn-back.result (λ (k n : ℕ). n ≡ from c.args.to k) (λ i y q call. search rules) 0 32 c.from_fn-back.ensures.items.each j 0 (omega arith) (omega arith)
