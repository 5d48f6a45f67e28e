-- The entries of a log that are taken.
use Rattle.std.specs.Prelude.{◌≡◌, ℕ, List, [], ◌∷◌, ◌++◌, map}
use Rattle.charts.specs.declared.parts.Event.{Event}
use Rattle.media.specs.Carry.{Carry}
use Rattle.media.specs.Media.{free}
use Rattle.records.specs.declared.parts.Entry.{Entry}
use Rattle.records.specs.declared.parts.Record.TheVariants.{Head as head, Entry as entry}
use Rattle.records.specs.Records.{head_bytes, entry_bytes}
use Rattle.records.specs.Reading.{BeginsWith}
use Rattle.logs.specs.Heads.{head_of}
use Rattle.logs.specs.Entries.{Taken}

-- the longest run of entries from the bytes on, where those before them have led to h, each of which is the next event of its instance and may run
pub data TakenFrom (M : Carry) (L : List (List Event)) : List ℕ → List ℕ → List Entry → Type 0 where
  -- one more, and those behind it
  more : (h bytes : List ℕ) (x : Entry) (rest : List ℕ) (xs : List Entry) → bytes ≡ entry_bytes x ++ rest → Taken M L h x → TakenFrom M L (h ++ (x.instance ∷ [])) rest xs → TakenFrom M L h bytes (x ∷ xs)
  -- no more
  over : (h bytes : List ℕ) → ((x : Entry) → BeginsWith bytes (entry x) → Taken M L h x → ⊥) → TakenFrom M L h bytes []

-- those of a whole log, from its head on
pub data TakenOf (M : Carry) (L : List (List Event)) (bytes : List ℕ) : List Entry → Type 0 where
  -- it begins with the head of the chart
  headed : (rest : List ℕ) (xs : List Entry) → bytes ≡ head_bytes (head_of L) ++ rest → TakenFrom M L [] rest xs → TakenOf M L bytes xs
  -- it does not
  headless : (BeginsWith bytes (head (head_of L)) → ⊥) → TakenOf M L bytes []

-- the instances of entries
abbrev pub instances_of : List Entry → List ℕ
instances_of xs = map (λ (x : Entry). x.instance) xs

-- the instances of those that are taken where messages may arrive in any order
abbrev pub TakenIn : List (List Event) → List ℕ → List ℕ → Type 0
TakenIn L bytes instances = (xs : List Entry) × TakenOf free L bytes xs × (instances ≡ instances_of xs)
