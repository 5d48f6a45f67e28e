-- The causes by their numbers.
use Rattle.std.specs.Prelude.{ℕ, List, [], ◌∷◌}
use Rattle.records.specs.declared.parts.Flaw.{Flaw}
use Rattle.records.specs.declared.parts.Flaw.TheVariants.{CutShort as EndsEarly, WrongForm}
use Rattle.logs.specs.declared.parts.Cause.{Cause}
use Rattle.logs.specs.declared.parts.Cause.TheVariants.{CutShort, WrongRecord, OtherChart, NotNext, WrongCount, MustWait}

-- the number of a cause
abbrev pub number_of : Cause → ℕ
number_of CutShort = 51
number_of WrongRecord = 52
number_of OtherChart = 53
number_of NotNext = 54
number_of WrongCount = 55
number_of (MustWait j) = 43

-- the instance waited for, where there is one
abbrev pub waited_for : Cause → List ℕ
waited_for CutShort = []
waited_for WrongRecord = []
waited_for OtherChart = []
waited_for NotNext = []
waited_for WrongCount = []
waited_for (MustWait j) = j ∷ []

-- why bytes are refused that are no record
abbrev pub of_flaw : Flaw → Cause
of_flaw EndsEarly = CutShort
of_flaw WrongForm = WrongRecord
