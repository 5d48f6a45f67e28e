-- Names and their numbers.
use Rattle.std.specs.Prelude.{◌≡◌, ◌≢◌, ℕ, ◌+◌, ◌<◌, List, Option, Some, None, IsSome, Result, Ok, Err}
use Rattle.std.specs.Ordering.{nat_cmp}
use Rattle.std.specs.Cmp.Lexicographic.{slice_cmp}
use Rattle.std.specs.Coded.{Coded, coded_ℕ, coded_list}
use Rattle.std.specs.FinMap.{FinMap, get, len, code}
use Rattle.names.specs.declared.parts.Refusal.{Refusal}
use Rattle.names.specs.declared.parts.Refusal.TheVariants.{Repeated, Full}

-- finitely many names, which are lists of bytes, each with a number
abbrev pub Numbers : Type 0
Numbers = FinMap (slice_cmp nat_cmp) ℕ

-- such names as one value
abbrev pub numbers_code : Coded Numbers
numbers_code = code (coded_list coded_ℕ) coded_ℕ

-- the number of a name, none where it is no name of these
abbrev pub number_of : Numbers → List ℕ → Option ℕ
number_of names name = get names name

-- how many names they are
abbrev pub count : Numbers → ℕ
count names = len names

-- the name is not there and there is room for it, and new has it with its number, and else what old has
pub record Adds (old : Numbers) (name : List ℕ) (number : ℕ) (new : Numbers) : Type 0 where
  pub fresh : number_of old name ≡ None
  pub room : count old < 4096
  pub this : number_of new name ≡ Some number
  pub others : (other : List ℕ) → other ≢ name → number_of new other ≡ number_of old other
  pub more : count new ≡ count old + 1

-- to note a name adds it, or else tells why not, and changes nothing
abbrev pub Notes : Numbers → List ℕ → ℕ → Result (Unit {0}) Refusal → Numbers → Type 0
Notes old name number (Ok _) new = Adds old name number new
Notes old name number (Err Repeated) new = IsSome (number_of old name) × (new ≡ old)
Notes old name number (Err Full) new = (number_of old name ≡ None) × (count old ≡ 4096) × (new ≡ old)
