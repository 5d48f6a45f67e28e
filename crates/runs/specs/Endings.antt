-- How a drive ended, as what code can compute.
use Rattle.std.specs.Prelude.{ℕ, cond, List, length, ◌==◌, nat_lt}
use Rattle.charts.specs.declared.parts.Event.{Event}
use Rattle.orders.specs.Deciding.{unfinished}
use Rattle.orders.specs.Driving.{lowest}
use Rattle.runs.specs.declared.parts.Ending.{Ending}
use Rattle.runs.specs.declared.parts.Ending.TheVariants.{Finished, Count, Stuck}

-- finished where no instance has an event left; else by the count where n steps were made; else stuck
abbrev pub ending_of : List (List Event) → (ℕ → ℕ) → ℕ → ℕ → Ending
ending_of L p made n = cond (nat_lt (lowest (unfinished L p) (length L)) (length L)) (cond (made == n) Count Stuck) Finished
