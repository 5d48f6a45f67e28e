-- Looking for an event item by item.
use Rattle.std.proofs.Common.{◌≡◌, ℕ, Ok}
use Rattle.items.specs.Items.{Items}
use Rattle.texts.specs.Starts.{start_in}

-- the place that is wanted is where the event starts that is left to find
pub record Starting (at : ℕ) (left : Items) (instances events : ℕ) : Type 0 where
  pub ends : left.outcome ≡ Ok tt
  pub same : start_in instances events left.items ≡ at
