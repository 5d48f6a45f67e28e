-- The bytes of a whole log.
use Rattle.std.specs.Prelude.{◌≡◌, ℕ, List, [], ◌∷◌, ◌++◌, length}
use Rattle.records.specs.declared.parts.Entry.{Entry}
use Rattle.records.specs.Records.{head_bytes, entry_bytes, end_bytes}

-- the bytes of entries, one after another
abbrev pub entries_bytes : List Entry → List ℕ
entries_bytes [] = []
entries_bytes (x ∷ xs) = entry_bytes x ++ entries_bytes xs

-- the bytes are one head with the number of instances and of events, these entries, one end with their number, and nothing else
abbrev pub Framed : ℕ → ℕ → List ℕ → List Entry → Type 0
Framed width events bytes xs =
    bytes ≡ head_bytes (record { width = width; events = events }) ++ (entries_bytes xs ++ end_bytes (record { count = length xs }))
