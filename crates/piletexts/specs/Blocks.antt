-- A table among other lines: the lengths, the events, and then a line `.`; and any text up to such a line.
use Rattle.std.specs.Prelude.{ℕ, ◌+◌, cond, List, [], ◌∷◌, ◌++◌, length, Some, None, Ok, Err, codes, Option, Result, ◌==◌}
use Rattle.std.specs.Str.{bytes_eq}
use Rattle.charts.specs.declared.parts.Event.{Event}
use Rattle.tabletexts.specs.Table.{Table, table, event_on, lengths_on}

-- what was read, the number of the line that was read last, and the lines behind it
pub record UpTo (A : Type 0) : Type 0 where
  pub found : A
  pub number : ℕ
  pub behind : List (List ℕ)

-- x was found up to line n, with these lines behind it
abbrev pub up_to : {A : Type 0} → A → ℕ → List (List ℕ) → UpTo A
up_to x n ls = record { found = x; number = n; behind = ls }

-- on with what was found; where there is nothing, line n cannot be read
abbrev pub found_on : {A B : Type 0} → ℕ → Option A → (A → Result B ℕ) → Result B ℕ
found_on n None f = Err n
found_on n (Some x) f = f x

-- the events es, and then those on the lines up to a line `.`, behind n lines; empty lines are passed over
abbrev pub events_until : List Event → ℕ → List (List ℕ) → Result (UpTo (List Event)) ℕ
events_until es n [] = Err (n + 1)
events_until es n (l ∷ ls) =
    cond (bytes_eq l (codes ".")) (Ok (up_to es (n + 1) ls))
    (cond (length l == 0) (events_until es (n + 1) ls)
    (found_on (n + 1) (event_on l) (λ e. events_until (es ++ e ∷ []) (n + 1) ls)))

-- what cannot be read is line n
abbrev pub on_line : {A : Type 0} → ℕ → Result A ℕ → Result A ℕ
on_line n (Ok x) = Ok x
on_line n (Err k) = Err n

-- the table of these lengths and of the events that follow
abbrev pub table_by : Result (List ℕ) ℕ → Result (UpTo (List Event)) ℕ → Result (UpTo Table) ℕ
table_by (Err n) r = Err n
table_by (Ok ns) (Err n) = Err n
table_by (Ok ns) (Ok u) = Ok (up_to (table ns u.found) u.number u.behind)

-- the table on the lines up to a line `.`, behind n lines; without a line it has no instances
abbrev pub table_until : ℕ → List (List ℕ) → Result (UpTo Table) ℕ
table_until n [] = Err (n + 1)
table_until n (l ∷ ls) =
    cond (bytes_eq l (codes ".")) (Ok (up_to (table [] []) (n + 1) ls)) (table_by (on_line (n + 1) (lengths_on l)) (events_until [] (n + 1) ls))

-- a line and its line feed before the text that was found
abbrev pub line_before : List ℕ → Result (UpTo (List ℕ)) ℕ → Result (UpTo (List ℕ)) ℕ
line_before l (Err n) = Err n
line_before l (Ok u) = Ok (up_to (l ++ (10 ∷ u.found)) u.number u.behind)

-- the text on the lines up to a line `.`, behind n lines
abbrev pub text_until : ℕ → List (List ℕ) → Result (UpTo (List ℕ)) ℕ
text_until n [] = Err (n + 1)
text_until n (l ∷ ls) = cond (bytes_eq l (codes ".")) (Ok (up_to [] (n + 1) ls)) (line_before l (text_until (n + 1) ls))
