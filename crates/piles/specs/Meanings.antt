-- What a chart means: its fault, or none, and its lists; and what its making makes of that.
use Rattle.std.specs.Prelude.{◌≡◌, ℕ, List, vec_items, Option}
use Rattle.charts.specs.declared.parts.Event.{Event}
use Rattle.charts.specs.declared.faults.Fault.{Fault}
use Rattle.checks.specs.Checked.{checked}
use Rattle.flats.specs.declared.flat.Flat.{Flat}
use Rattle.flats.specs.FlatLists.{counts, flat_trouble, flat_lists}
use Rattle.joining.specs.After.{after_trouble, after_lists}
use Rattle.joining.specs.Beside.{beside_trouble, beside_lists}
use Rattle.joining.specs.Recast.{recast_trouble, recast_lists}
use Rattle.polling.specs.Limits.{trouble_of, lists_of}
use Rattle.tables.specs.TableLists.{table_lists}

pub record Meaning : Type 0 where
  pub trouble : Option Fault
  pub lists : List (List Event)

-- the fault f, or none, and the lists L
abbrev pub meaning : Option Fault → List (List Event) → Meaning
meaning f L = record { trouble = f; lists = L }

-- of an owned copy
abbrev pub flat_meaning : Flat → Meaning
flat_meaning x = meaning (flat_trouble x.verdict (counts (vec_items x.columns)) (vec_items x.events)) (flat_lists x.verdict (counts (vec_items x.columns)) (vec_items x.events))

-- of a table
abbrev pub table_meaning : List ℕ → List Event → Meaning
table_meaning ns es = meaning (checked ns es) (table_lists ns es)

-- of a poll of n keypads in r rounds
abbrev pub poll_meaning : ℕ → ℕ → Meaning
poll_meaning n r = meaning (trouble_of n r) (lists_of n r)

-- of b after a
abbrev pub after_meaning : Meaning → Meaning → Meaning
after_meaning a b =
    meaning (after_trouble a.trouble b.trouble a.lists b.lists) (after_lists a.trouble b.trouble a.lists b.lists)

-- of b beside a
abbrev pub beside_meaning : Meaning → Meaning → Meaning
beside_meaning a b =
    meaning (beside_trouble a.trouble b.trouble a.lists b.lists) (beside_lists a.trouble b.trouble a.lists b.lists)

-- of a with its instances renamed by t
abbrev pub recast_meaning : List ℕ → Meaning → Meaning
recast_meaning t a = meaning (recast_trouble a.trouble a.lists t) (recast_lists a.trouble a.lists t)

-- a call of two charts makes one that means what f makes of their meanings
abbrev pub Makes : {C : Type 0} → (Meaning → Meaning → Meaning) → (Flat → Flat → C → Type 0) → (C → Option Fault) → (C → List (List Event)) → Type 0
Makes {C} f post trouble lists =
    (a b : Flat) (c : C) → post a b c → meaning (trouble c) (lists c) ≡ f (flat_meaning a) (flat_meaning b)
