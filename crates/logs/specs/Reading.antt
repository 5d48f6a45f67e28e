-- The bytes of one record.
use Rattle.std.specs.Prelude.{◌≡◌, ℕ, List, Ok, Err, Result}
use Rattle.records.specs.declared.parts.Record.{Record}
use Rattle.records.specs.Records.{written}
use Rattle.records.specs.Reading.{EndsEarly}
use Rattle.logs.specs.declared.parts.Cause.{Cause}
use Rattle.logs.specs.Causes.{number_of}

-- the bytes are not those of one record
pub data NotOne (bytes : List ℕ) (c : Cause) : Type 0 where
  cut_short : number_of c ≡ 51 → EndsEarly bytes → NotOne bytes c
  wrong_record : number_of c ≡ 52 → (EndsEarly bytes → ⊥) → ((r : Record) → bytes ≡ written r → ⊥) → NotOne bytes c

-- the record that has these bytes
abbrev pub ReadsOne : List ℕ → Result Record Cause → Type 0
ReadsOne bytes (Ok r) = bytes ≡ written r
ReadsOne bytes (Err c) = NotOne bytes c
