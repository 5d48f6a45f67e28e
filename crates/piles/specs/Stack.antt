-- A stack of charts, by what they mean, the top first.
use Rattle.std.specs.Prelude.{◌≡◌, ℕ, ◌<◌, List, [], ◌∷◌, map, length, reverse, Some, None, Ok, Err, Option, Result}
use Rattle.std.specs.Borrow.{Bor}
use Rattle.flats.specs.declared.flat.Flat.{Flat}
use Rattle.tabletexts.specs.declared.parts.Unread.{Unread}
use Rattle.tabletexts.specs.declared.parts.Unread.TheVariants.{Line, Memory}
use Rattle.piles.specs.Meanings.{Meaning, flat_meaning}

-- the stack of these charts, the last of which is the top
abbrev pub stack_of : List Flat → List Meaning
stack_of cs = reverse (map flat_meaning cs)

-- the chart on top
abbrev pub top_of : List Meaning → Option Meaning
top_of [] = None
top_of (a ∷ S) = Some a

-- what a lent chart means
abbrev pub shown : Option (Bor Flat) → Option Meaning
shown None = None
shown (Some chart) = Some (flat_meaning chart.now)

-- the top is taken off, or there is none and the line n is told
abbrev pub Popped : ℕ → List Meaning → Result Flat Unread → List Meaning → Type 0
Popped n S (Ok chart) T = S ≡ flat_meaning chart ∷ T
Popped n S (Err (Line k)) T = (S ≡ []) × ((T ≡ []) × (k ≡ n))
Popped n S (Err Memory) T = ⊥

-- the two upper charts are taken off, the upper one second, or there are not two, the stack stays and the line n is told
abbrev pub PoppedTwo : ℕ → List Meaning → Result (Flat × Flat) Unread → List Meaning → Type 0
PoppedTwo n S (Ok charts) T = S ≡ flat_meaning charts.1 ∷ flat_meaning charts.0 ∷ T
PoppedTwo n S (Err (Line k)) T = (length S < 2) × ((T ≡ S) × (k ≡ n))
PoppedTwo n S (Err Memory) T = ⊥

-- a command that a line refuses leaves the stack as it was; want of memory says nothing
abbrev pub RefusalKeeps : {A : Type 0} → Result A Unread → List Meaning → List Meaning → Type 0
RefusalKeeps (Ok a) S T = Unit {0}
RefusalKeeps (Err (Line k)) S T = T ≡ S
RefusalKeeps (Err Memory) S T = Unit {0}

-- one chart taken off, and what f makes of it put on
abbrev pub turn_one : (Meaning → Meaning) → List Meaning → Option (List Meaning)
turn_one f [] = None
turn_one f (a ∷ S) = Some (f a ∷ S)

-- two charts taken off, the upper of which is the second, and what f makes of them put on
abbrev pub join_two : (Meaning → Meaning → Meaning) → List Meaning → Option (List Meaning)
join_two f [] = None
join_two f (b ∷ []) = None
join_two f (b ∷ a ∷ S) = Some (f a b ∷ S)
