-- What is read off the start of some bytes.
use Rattle.std.specs.Prelude.{◌≡◌, ℕ, ◌+◌, ◌*◌, ◌<◌, List, ◌++◌, length, Ok, Err, Result, slice_index}
use Rattle.records.specs.declared.parts.Record.{Record}
use Rattle.records.specs.declared.parts.Flaw.{Flaw}
use Rattle.records.specs.declared.parts.Flaw.TheVariants.{CutShort, WrongForm}
use Rattle.records.specs.Records.{written}

-- the length of the payload, by the first two bytes
abbrev pub payload_length : List ℕ → ℕ
payload_length bytes = slice_index bytes 0 + 256 * slice_index bytes 1

-- the bytes end before the record does that they begin with
abbrev pub EndsEarly : List ℕ → Type 0
EndsEarly bytes = length bytes < 4 + payload_length bytes

-- the bytes begin with a record
abbrev pub BeginsWith : List ℕ → Record → Type 0
BeginsWith bytes r = (rest : List ℕ) × (bytes ≡ written r ++ rest)

-- the record that the bytes begin with, and how many of them it takes; that they end early; or, where they do not, that they begin with no record
abbrev pub Reads : List ℕ → Result (Record × ℕ) Flaw → Type 0
Reads bytes (Ok x) = BeginsWith bytes x.0 × (x.1 ≡ length (written x.0))
Reads bytes (Err CutShort) = EndsEarly bytes
Reads bytes (Err WrongForm) = (EndsEarly bytes → ⊥) × ((r : Record) → BeginsWith bytes r → ⊥)
