-- The entries of a log.
use Rattle.std.specs.Prelude.{◌≡◌, ℕ, List, [], ◌∷◌, ◌++◌, Ok, Err, Result}
use Rattle.charts.specs.declared.parts.Event.{Event}
use Rattle.media.specs.Carry.{Carry}
use Rattle.orders.specs.Histories.{Next}
use Rattle.orders.specs.May.{May, Waits}
use Rattle.records.specs.declared.parts.Entry.{Entry}
use Rattle.runs.specs.declared.parts.Refusal.{Refusal}
use Rattle.runs.specs.declared.parts.Refusal.TheVariants.{MustWait as Waiting}
use Rattle.logs.specs.declared.parts.Cause.{Cause}
use Rattle.logs.specs.declared.parts.Cause.TheVariants.{NotNext, MustWait}
use Rattle.logs.specs.Causes.{number_of, waited_for}

-- the entry names the next event of its instance after h, by its kind and number
pub record NamesNext (L : List (List Event)) (h : List ℕ) (x : Entry) : Type 0 where
  pub event : Event
  pub next : Next L h x.instance event
  pub kind : event.kind ≡ x.kind
  pub number : event.number ≡ x.number

-- the entry is taken after h: it names the next event of its instance, which may run
pub record Taken (M : Carry) (L : List (List Event)) (h : List ℕ) (x : Entry) : Type 0 where
  pub names : NamesNext L h x
  pub may : May M L h x.instance

-- the entry is refused after h
pub data EntryRefused (M : Carry) (L : List (List Event)) (h : List ℕ) (x : Entry) (c : Cause) : Type 0 where
  -- it does not name the next event of its instance
  not_next : number_of c ≡ 54 → (NamesNext L h x → ⊥) → EntryRefused M L h x c
  -- it does, and that event must wait, for instance j
  must_wait : (j : ℕ) → number_of c ≡ 43 → waited_for c ≡ j ∷ [] → NamesNext L h x → Waits M L h x.instance j → EntryRefused M L h x c

-- why an entry is refused whose event is not stepped
abbrev pub cause_of : Refusal → Cause
cause_of (Waiting j) = MustWait j
cause_of _ = NotNext

-- the entry is taken, and the run then stands after one step more of its instance; or it is refused
abbrev pub TakeAnswers : Carry → List (List Event) → List ℕ → Entry → Result (Unit {0}) Cause → (List ℕ → Type 0) → Type 0
TakeAnswers M L h x (Ok u) Stands = Taken M L h x × Stands (h ++ (x.instance ∷ []))
TakeAnswers M L h x (Err c) Stands = EntryRefused M L h x c
