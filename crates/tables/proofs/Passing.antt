-- The steps of a pass over a table's events.
use Rattle.std.proofs.Common.{◌≡◌, ℕ, ◌+◌, ◌<◌, List, length, get_or, drop, Some, None, Option, sym, ap, ◌∙◌}
use Rattle.charts.specs.declared.parts.Event.{Event}
use Rattle.charts.specs.declared.faults.Fault.{Fault}
use Rattle.charts.specs.Events.{no_event}
use Rattle.checks.specs.Cut.{instance_of, index_of}
use Rattle.checks.specs.Checked.{table_fault, scan}
use Rattle.checks.proofs.Scans.{scan_pass, scan_stop}

-- no event before k breaks the rule
abbrev pub Clean : (ℕ → Event → Option ℕ) → List ℕ → List Event → ℕ → Type 0
Clean rule ns es k = scan rule ns k (drop k es) ≡ scan rule ns 0 es

module _ (rule : ℕ → Event → Option ℕ) (ns : List ℕ) (es : List Event) (k : ℕ) (clean : Clean rule ns es k) where
  pub stop : (f : Fault) (n : ℕ) → k < length es → f ≡ table_fault n (instance_of ns k) (index_of ns k) → rule k (get_or es k no_event) ≡ Some n → scan rule ns 0 es ≡ Some f
  stop f n h is broken = sym clean ∙ scan_stop rule ns es k n h broken ∙ ap (λ (x : Fault). Some x) (sym is)

  pub onward : k < length es → rule k (get_or es k no_event) ≡ None → Clean rule ns es (k + 1)
  onward h kept = sym (scan_pass rule ns es k h kept) ∙ clean
