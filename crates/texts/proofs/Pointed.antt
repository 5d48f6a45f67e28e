-- Rows of a table that stand for names of the text.
use Rattle.std.proofs.Common.{◌≡◌, ℕ, zero, suc, ◌+◌, ◌-◌, ◌<◌, ◌≤◌, List, [], ◌∷◌, length, map, replicate, get_or, refl, sym, ap₂, ◌∙◌, arith}
use Rattle.std.proofs.lemmas.List.{length-append, length-map, length-replicate}
use Rattle.words.specs.Sentences.{Placed}
use Rattle.words.specs.Reading.{StandsIn}
use Rattle.grammar.proofs.Lists.{bytes_of}
use Rattle.texts.specs.declared.rows.Name.{Name}
use Rattle.texts.specs.Rows.{padded, no_name, row_of}
use Rattle.texts.specs.Builds.{bytes_at, StandFor}
use Rattle.texts.proofs.Worded.{Each}

-- rows of a table that has enough of them
own_length : {T : Type 0} (z : T) (n : ℕ) (xs : List T) → length xs ≤ n → length (padded z n xs) ≡ n
own_length z n xs few = let a = length-append xs (replicate (n - length xs) z) in let b = length-replicate (n - length xs) z in omega arith

pub padded_own : {T : Type 0} (z : T) (n : ℕ) (xs ys : List T) → length xs ≤ n → xs ≡ ys → padded z n xs ≡ padded z (length (padded z n xs)) ys
padded_own z n xs ys few is = ap₂ (padded z) (sym (own_length z n xs few)) is

-- the rows of names that stand in the text
spelled : (text : List ℕ) (ns : List Placed) → Each (StandsIn text) ns → map (bytes_at text) (map row_of ns) ≡ bytes_of ns
spelled text [] h = refl
spelled text (n ∷ ns) h = ap₂ (λ (b : List ℕ) (bs : List (List ℕ)). b ∷ bs) (sym h.0.bytes) (spelled text ns h.1)

rows_within : (text : List ℕ) (ns : List Placed) → Each (StandsIn text) ns → (k : ℕ) (d : Name) → k < length (map row_of ns) → (get_or (map row_of ns) k d).start + (get_or (map row_of ns) k d).length ≤ length text
rows_within text [] h k d l = absurd (omega arith)
rows_within text (n ∷ ns) h zero d l = h.0.within
rows_within text (n ∷ ns) h (suc k) d l = rows_within text ns h.1 k d (omega arith)

pub spell : (text : List ℕ) (n : ℕ) (ns : List Placed) (names : List (List ℕ)) → length ns ≤ n → Each (StandsIn text) ns → names ≡ bytes_of ns → StandFor text (padded no_name n (map row_of ns)) names
spell text n ns names few stand is =
    record {
      rows = map row_of ns;
      table_is = padded_own no_name n (map row_of ns) (map row_of ns) (let l = length-map ns row_of in omega arith) refl;
      within = rows_within text ns stand;
      names_are = spelled text ns stand ∙ sym is;
    }
