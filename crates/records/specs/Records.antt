-- The bytes of the records: the length of the payload, the kind, and the payload.
use Rattle.std.specs.Prelude.{ℕ, ◌/◌, ◌%◌, List, [], ◌∷◌, ◌++◌, length}
use Rattle.records.specs.declared.parts.Head.{Head}
use Rattle.records.specs.declared.parts.Entry.{Entry}
use Rattle.records.specs.declared.parts.End.{End}
use Rattle.records.specs.declared.parts.Record.{Record}
use Rattle.records.specs.declared.parts.Record.TheVariants.{Head as head, Entry as entry, End as end}

-- a 16-bit number, its low byte first
abbrev pub word : ℕ → List ℕ
word n = n % 256 ∷ n / 256 ∷ []

-- a record of this kind with this payload
abbrev pub record_of : ℕ → List ℕ → List ℕ
record_of kind payload = word (length payload) ++ (word kind ++ payload)

-- the bytes of a head: its instances, its events
abbrev pub head_bytes : Head → List ℕ
head_bytes h = record_of 1 (h.width ∷ word h.events)

-- the bytes of an entry: its instance, its kind, its number
abbrev pub entry_bytes : Entry → List ℕ
entry_bytes e = record_of 2 (e.instance ∷ e.kind ∷ word e.number)

-- the bytes of an end: its number of entries
abbrev pub end_bytes : End → List ℕ
end_bytes e = record_of 3 (word e.count)

-- the bytes of a record
abbrev pub written : Record → List ℕ
written (head h) = head_bytes h
written (entry e) = entry_bytes e
written (end e) = end_bytes e
