-- What a following follower makes of an entry.
use Rattle.std.specs.Prelude.{◌≡◌, ℕ, List, [], ◌∷◌, ◌++◌, Some, None, Ok, Err, Option, Result}
use Rattle.charts.specs.declared.parts.Event.{Event}
use Rattle.charts.specs.declared.faults.Fault.{Fault}
use Rattle.media.specs.Carry.{Carry}
use Rattle.records.specs.declared.parts.Entry.{Entry}
use Rattle.records.specs.Records.{entry_bytes}
use Rattle.records.specs.Reading.{EndsEarly}
use Rattle.logs.specs.declared.parts.Cause.{Cause}
use Rattle.logs.specs.declared.parts.Refusal.{Refusal}
use Rattle.logs.specs.declared.parts.Refusal.TheVariants.{Spoiled, Record}
use Rattle.logs.specs.declared.parts.Following.{Following}
use Rattle.logs.specs.Causes.{number_of}
use Rattle.logs.specs.Followers.{one_more}
use Rattle.logs.specs.Entries.{Taken, EntryRefused}

-- what a follower f makes of an entry after h: it takes the entry, and the run then stands after one step more of the entry's instance
abbrev pub TakesEntry : Carry → List (List Event) → List ℕ → Following → Entry → Result Following (Following × Refusal) → (List ℕ → Type 0) → Type 0
TakesEntry M L h f x (Ok g) Stands = Taken M L h x × (g ≡ one_more f) × Stands (h ++ (x.instance ∷ []))
TakesEntry M L h f x (Err r) Stands = (c : Cause) × (r ≡ (f, Record f.index c)) × EntryRefused M L h x c

-- the bytes of an entry are refused after h
pub data EventRefused (M : Carry) (L : List (List Event)) (h : List ℕ) (bytes : List ℕ) (c : Cause) : Type 0 where
  -- they end early
  cut_short : number_of c ≡ 51 → EndsEarly bytes → EventRefused M L h bytes c
  -- they are no entry
  wrong_record : number_of c ≡ 52 → (EndsEarly bytes → ⊥) → ((x : Entry) → bytes ≡ entry_bytes x → ⊥) → EventRefused M L h bytes c
  -- the entry is refused
  entry : (x : Entry) → bytes ≡ entry_bytes x → EntryRefused M L h x c → EventRefused M L h bytes c

-- what a follower f answers after h to the bytes of a record
abbrev pub EventAnswers : Option Fault → Carry → List (List Event) → List ℕ → Following → List ℕ → Result Following (Following × Refusal) → (List ℕ → Type 0) → Type 0
EventAnswers (Some t) M L h f bytes r Stands = r ≡ Err (f, Spoiled t)
EventAnswers None M L h f bytes (Ok g) Stands = (x : Entry) × (bytes ≡ entry_bytes x) × Taken M L h x × (g ≡ one_more f) × Stands (h ++ (x.instance ∷ []))
EventAnswers None M L h f bytes (Err r) Stands = (c : Cause) × (r ≡ (f, Record f.index c)) × EventRefused M L h bytes c
