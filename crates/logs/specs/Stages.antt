-- The stage of a whole log.
use Rattle.std.specs.Prelude.{ℕ}
use Rattle.logs.specs.declared.stages.Stage.{Stage}
use Rattle.logs.specs.declared.stages.Stage.TheVariants.{Waiting, Following}

-- the index of the record that is next
abbrev pub index_of : Stage → ℕ
index_of (Waiting w) = 0
index_of (Following f) = f.index
