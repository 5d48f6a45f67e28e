-- What is wrong with a table, if anything: its checks, in their order.
use Rattle.std.specs.Prelude.{ℕ, suc, List, [], ◌∷◌, length, Some, None, sum, Option, ◌==◌, nat_le}
use Rattle.charts.specs.declared.parts.Event.{Event}
use Rattle.charts.specs.declared.faults.Fault.{Fault}
use Rattle.checks.specs.Choice.{unless, or_else, earliest}
use Rattle.checks.specs.Cut.{instance_of, index_of}
use Rattle.checks.specs.Rules.{well_formed, not_repeated, matched}

-- a fault that a table finds; tables are layer 1
abbrev pub table_fault : ℕ → ℕ → ℕ → Fault
table_fault number i k = record { number = number; instance = i; event = k; layer = 1 }

-- the fault at the table's event k
abbrev pub blamed : List ℕ → ℕ → Option ℕ → Option Fault
blamed ns k None = None
blamed ns k (Some number) = Some (table_fault number (instance_of ns k) (index_of ns k))

-- the first event, from place k on, that breaks a rule
abbrev pub scan : (ℕ → Event → Option ℕ) → List ℕ → ℕ → List Event → Option Fault
scan rule ns k [] = None
scan rule ns k (e ∷ es) = or_else (blamed ns k (rule k e)) (scan rule ns (suc k) es)

-- at most 32 lengths, at most 4,096 events, the lengths sum to the events;
-- then the events in table order for their form, again for repeats, and again for matches
abbrev pub checked : List ℕ → List Event → Option Fault
checked ns es =
    earliest
    (unless (nat_le (length ns) 32) (table_fault 11 0 0)
    ∷ unless (nat_le (length es) 4096) (table_fault 12 0 0)
    ∷ unless (sum ns == length es) (table_fault 13 0 0)
    ∷ scan (well_formed (length ns)) ns 0 es
    ∷ scan (not_repeated es) ns 0 es
    ∷ scan (matched ns es) ns 0 es
    ∷ [])
