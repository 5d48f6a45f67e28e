-- The numbers of a follower.
use Rattle.std.specs.Prelude.{ℕ, ◌+◌, ◌-◌, ◌^◌, min}
use Rattle.logs.specs.declared.parts.Following.{Following}

-- the index after this one; the greatest stays
abbrev pub index_after : ℕ → ℕ
index_after n = min (n + 1) (2 ^ 64 - 1)

-- the follower after one entry more; the entries stop at a number that no end record has
abbrev pub one_more : Following → Following
one_more f = record { index = index_after f.index; entries = min (f.entries + 1) 65536 }
