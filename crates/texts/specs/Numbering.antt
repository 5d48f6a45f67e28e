-- Names, numbered by their first appearance.
use Rattle.std.specs.Prelude.{ℕ, suc, cond, List, [], ◌∷◌, ◌++◌, fold}
use Rattle.std.specs.Str.{bytes_eq}
use Rattle.words.specs.Sentences.{Placed}
use Rattle.sentences.specs.Wants.{among}

-- the names and then n, unless it is one of them
abbrev pub added : List Placed → Placed → List Placed
added ns n = cond (among ns n.bytes) ns (ns ++ (n ∷ []))

-- each name once, where it appears first
abbrev pub distinct : List Placed → List Placed
distinct ns = fold added [] ns

-- the place of the first name of these bytes, that after the last where there is none
abbrev pub place_of : List Placed → List ℕ → ℕ
place_of [] q = 0
place_of (n ∷ ns) q = cond (bytes_eq n.bytes q) 0 (suc (place_of ns q))
