-- What the check of a whole log answers.
use Rattle.std.specs.Prelude.{◌≡◌, ℕ, suc, ◌+◌, List, [], ◌∷◌, ◌++◌, length, Some, None, Ok, Err, Option, Result}
use Rattle.charts.specs.declared.parts.Event.{Event}
use Rattle.charts.specs.declared.faults.Fault.{Fault}
use Rattle.media.specs.Carry.{Carry}
use Rattle.records.specs.declared.parts.Head.{Head}
use Rattle.records.specs.declared.parts.Entry.{Entry}
use Rattle.records.specs.declared.parts.End.{End}
use Rattle.records.specs.declared.parts.Record.TheVariants.{Head as head, Entry as entry, End as end}
use Rattle.records.specs.Records.{head_bytes, entry_bytes, end_bytes}
use Rattle.records.specs.Reading.{EndsEarly, BeginsWith}
use Rattle.logs.specs.declared.parts.Cause.{Cause}
use Rattle.logs.specs.declared.parts.Refusal.{Refusal}
use Rattle.logs.specs.declared.parts.Refusal.TheVariants.{Spoiled, Record}
use Rattle.logs.specs.declared.parts.Verdict.{Verdict}
use Rattle.logs.specs.Causes.{number_of}
use Rattle.logs.specs.Heads.{head_of}
use Rattle.logs.specs.Entries.{Taken, EntryRefused}
use Rattle.logs.specs.Ends.{end_of, VerdictIs}

-- record n is refused by this number
abbrev pub RefusedBy : ℕ → ℕ → Result Verdict Refusal → Type 0
RefusedBy number n r = (c : Cause) × (number_of c ≡ number) × (r ≡ Err (Record n c))

-- the answer r, where the end of the log is record n - 1, by the bytes after it
pub data AfterEnd (v : Verdict) (n : ℕ) (bytes : List ℕ) (r : Result Verdict Refusal) : Type 0 where
  -- there are none
  nothing : bytes ≡ [] → r ≡ Ok v → AfterEnd v n bytes r
  -- there are some, which end early
  cut_short : (bytes ≡ [] → ⊥) → EndsEarly bytes → RefusedBy 51 n r → AfterEnd v n bytes r
  -- there are more
  more : (EndsEarly bytes → ⊥) → RefusedBy 52 n r → AfterEnd v n bytes r

-- the answer r, where the entries so far have led to h, by the bytes after them
pub data AfterEntries (M : Carry) (L : List (List Event)) (r : Result Verdict Refusal) : List ℕ → List ℕ → Type 0 where
  -- they begin with an entry that is taken
  goes_on : (h bytes : List ℕ) (x : Entry) (rest : List ℕ) → bytes ≡ entry_bytes x ++ rest → Taken M L h x → AfterEntries M L r (h ++ (x.instance ∷ [])) rest → AfterEntries M L r h bytes
  -- they begin with an entry that is refused
  refused : (h bytes : List ℕ) (x : Entry) (c : Cause) → BeginsWith bytes (entry x) → EntryRefused M L h x c → r ≡ Err (Record (suc (length h)) c) → AfterEntries M L r h bytes
  -- they end early
  cut_short : (h bytes : List ℕ) → EndsEarly bytes → RefusedBy 51 (suc (length h)) r → AfterEntries M L r h bytes
  -- they begin with no entry and no end
  wrong_record : (h bytes : List ℕ) → (EndsEarly bytes → ⊥) → ((x : Entry) → BeginsWith bytes (entry x) → ⊥) → ((x : End) → BeginsWith bytes (end x) → ⊥) →
      RefusedBy 52 (suc (length h)) r → AfterEntries M L r h bytes
  -- they begin with an end of another number of entries
  wrong_count : (h bytes : List ℕ) (x : End) → BeginsWith bytes (end x) → (x ≡ end_of (length h) → ⊥) → RefusedBy 55 (suc (length h)) r → AfterEntries M L r h bytes
  -- they begin with the end
  ends : (h bytes : List ℕ) (v : Verdict) (rest : List ℕ) → bytes ≡ end_bytes (end_of (length h)) ++ rest → VerdictIs L h v → AfterEnd v (length h + 2) rest r → AfterEntries M L r h bytes

-- the answer r to the bytes of a log
pub data LogAnswered (M : Carry) (L : List (List Event)) (bytes : List ℕ) (r : Result Verdict Refusal) : Type 0 where
  -- they end early
  cut_short : EndsEarly bytes → RefusedBy 51 0 r → LogAnswered M L bytes r
  -- they begin with no head
  wrong_record : (EndsEarly bytes → ⊥) → ((x : Head) → BeginsWith bytes (head x) → ⊥) → RefusedBy 52 0 r → LogAnswered M L bytes r
  -- they begin with the head of a chart of another size
  other_chart : (x : Head) → BeginsWith bytes (head x) → (x ≡ head_of L → ⊥) → RefusedBy 53 0 r → LogAnswered M L bytes r
  -- they begin with the head
  begins : (rest : List ℕ) → bytes ≡ head_bytes (head_of L) ++ rest → AfterEntries M L r [] rest → LogAnswered M L bytes r

-- the answer to a log of a chart with this fault, or with none
abbrev pub LogAnswers : Option Fault → Carry → List (List Event) → List ℕ → Result Verdict Refusal → Type 0
LogAnswers (Some t) M L bytes r = r ≡ Err (Spoiled t)
LogAnswers None M L bytes r = LogAnswered M L bytes r
