-- The entries that some bytes begin with.
use Rattle.std.specs.Prelude.{◌≡◌, ℕ, suc, ◌-◌, List, [], ◌∷◌, ◌++◌, Ok, Err, Result}
use Rattle.records.specs.declared.parts.Entry.{Entry}
use Rattle.records.specs.declared.parts.Record.TheVariants.{Entry as entry}
use Rattle.records.specs.Records.{entry_bytes}
use Rattle.records.specs.Reading.{BeginsWith}
use Rattle.logs.specs.declared.parts.Refusal.{Refusal}
use Rattle.logs.specs.declared.parts.Refusal.TheVariants.{Spoiled, Record}
use Rattle.logs.specs.declared.parts.Verdict.{Verdict}

-- the instances of the first entries that the bytes begin with: of all of them, but at most of so many
pub data Leading : ℕ → List ℕ → List ℕ → Type 0 where
  -- so many were met
  enough : (bytes : List ℕ) → Leading 0 bytes []
  -- the bytes begin with no entry
  over : (n : ℕ) (bytes : List ℕ) → ((x : Entry) → BeginsWith bytes (entry x) → ⊥) → Leading n bytes []
  -- they begin with an entry
  more : (n : ℕ) (bytes : List ℕ) (x : Entry) (rest is : List ℕ) → bytes ≡ entry_bytes x ++ rest → Leading n rest is → Leading (suc n) bytes (x.instance ∷ is)

-- how many entries may have been taken of a log of this size with this answer: those before the record that is refused
abbrev pub most_taken : ℕ → Result Verdict Refusal → ℕ
most_taken size (Err (Record n c)) = n - 1
most_taken size (Err (Spoiled f)) = size
most_taken size (Ok v) = size
