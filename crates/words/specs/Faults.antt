-- The numbers of the causes for which a chart text is refused.
use Rattle.std.specs.Prelude.{ℕ}
use Rattle.charts.specs.Faults.{number_of as rule_number}
use Rattle.words.specs.declared.faults.Cause.{Cause}
use Rattle.words.specs.declared.faults.Cause.TheVariants.{BadByte, LongWord, WrongWord, TextEnds, InstanceRepeated, PeerUnknown, ShortTable, AfterEnd, Chart}

-- the number of a cause, of a chart's that of the rule that it breaks
abbrev pub number_of : Cause → ℕ
number_of BadByte = 21
number_of LongWord = 22
number_of WrongWord = 23
number_of TextEnds = 24
number_of InstanceRepeated = 25
number_of PeerUnknown = 26
number_of ShortTable = 27
number_of AfterEnd = 28
number_of (Chart rule) = rule_number rule
