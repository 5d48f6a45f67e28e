-- The names that the rows of a table stand for.
use Rattle.std.specs.Prelude.{ℕ, ◌+◌, Bool, ◌&&◌, List, length, take, drop, codes, nat_le, Some, None, Option}
use Rattle.std.specs.List.{list_all, slice_get}
use Rattle.texts.specs.declared.rows.Name.{Name}

-- the row lies in a text of so many bytes, and has 1 to 16 bytes
abbrev pub stands_in : ℕ → Name → Bool
stands_in size row = nat_le (row.start + row.length) size && nat_le 1 row.length && nat_le row.length 16

-- the first rows, so many, are in the table, and each stands in the text
abbrev pub are_names : ℕ → ℕ → List Name → Bool
are_names size count rows = nat_le count (length rows) && list_all (stands_in size) (take count rows)

-- the bytes of a row
abbrev pub bytes_of : List ℕ → Name → List ℕ
bytes_of text row = take row.length (drop row.start text)

-- what is written where a number is none of the chart's
abbrev pub unknown : List ℕ
unknown = codes "?"

-- the name of a row, where there is one
abbrev pub name_of : List ℕ → Option Name → List ℕ
name_of text (Some row) = bytes_of text row
name_of text None = unknown

-- the name with this number
abbrev pub name_at : List ℕ → List Name → ℕ → List ℕ
name_at text rows number = name_of text (slice_get rows number)
