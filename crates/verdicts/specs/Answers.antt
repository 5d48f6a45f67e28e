-- The answers as plain numbers.
use Rattle.std.specs.Prelude.{ℕ, List, map, length, replicate, slice_index_or}
use Rattle.words.specs.declared.faults.Fault.{Fault}
use Rattle.words.specs.Faults.{number_of as fault_number}
use Rattle.texts.specs.declared.rows.Name.{Name}
use Rattle.texts.specs.Rows.{padded, no_name}
use Rattle.logs.specs.declared.parts.Cause.{Cause}
use Rattle.logs.specs.Causes.{number_of, waited_for}
use Rattle.verdicts.specs.declared.answers.Member.{Member}
use Rattle.verdicts.specs.declared.answers.Judgement.{Judgement}
use Rattle.verdicts.specs.declared.answers.LogAnswer.{LogAnswer}

-- a row that is not used
abbrev pub no_member : Member
no_member = record { instance = 0; start = 0; length = 0 }

-- an instance, where its name is this one
abbrev pub member : ℕ → Name → Member
member i name = record { instance = i; start = name.start; length = name.length }

-- an instance with its name, by the names of all instances
abbrev pub member_of : List Name → ℕ → Member
member_of names i = member i (slice_index_or names i no_name)

-- the rows of a ring
abbrev pub rows_of : List Name → List ℕ → List Member
rows_of names ring = padded no_member 32 (map (member_of names) ring)

-- the chart runs to its end
abbrev pub runs : Judgement
runs = record { word = 1; number = 0; byte = 0; count = 0; ring = replicate 32 no_member }

-- it gets stuck in this ring
abbrev pub stuck : List Name → List ℕ → Judgement
stuck names ring = record { word = 2; number = 0; byte = 0; count = length ring; ring = rows_of names ring }

-- its text is refused for this fault
abbrev pub refused : Fault → Judgement
refused f = record { word = 3; number = fault_number f.cause; byte = f.byte; count = 0; ring = replicate 32 no_member }

-- the log is full
abbrev pub full : LogAnswer
full = record { word = 1; number = 0; byte = 0; index = 0; instance = 0 }

-- it is a part
abbrev pub part : LogAnswer
part = record { word = 2; number = 0; byte = 0; index = 0; instance = 0 }

-- its chart's text is refused for this fault
abbrev pub text_refused : Fault → LogAnswer
text_refused f = record { word = 3; number = fault_number f.cause; byte = f.byte; index = 0; instance = 0 }

-- the instance that a cause waits for, 0 where there is none
abbrev pub instance_in : Cause → ℕ
instance_in c = slice_index_or (waited_for c) 0 0

-- it is refused at the record of this index, for this cause
abbrev pub log_refused : ℕ → Cause → LogAnswer
log_refused n c = record { word = 4; number = number_of c; byte = 0; index = n; instance = instance_in c }
