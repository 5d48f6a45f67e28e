-- Bytes that begin with a record.
use Rattle.std.proofs.Common.{◌≡◌, ℕ, ◌+◌, ◌*◌, ◌-◌, ◌/◌, ◌%◌, ◌<◌, ◌≤◌, List, [], ◌∷◌, ◌++◌, length, get_or, take, drop, sym, refl, ap, ap₂, subst, inl, inr, ◌∙◌, arith, length-take, length-drop, take-append-drop}
use Rattle.std.proofs.lemmas.List.{take_all, length-take-le, get_or-take, get_or-drop, get_or_past}
use Rattle.std.proofs.lemmas.Bool.{cases_lt}
use Rattle.std.specs.List.{slice_range}
use Rattle.records.specs.declared.parts.Record.{Record}
use Rattle.records.specs.Records.{word, record_of, written}

-- a number by its two bytes
pub word_by : (n low high : ℕ) → low < 256 → high < 256 → n ≡ low + 256 * high → word n ≡ low ∷ high ∷ []
word_by n low high l h e =
    let a : n % 256 ≡ low = omega arith in
    let b : n / 256 ≡ high = omega arith in
    cc

-- bytes that begin with four
four : (bs : List ℕ) → 4 ≤ length bs → bs ≡ (get_or bs 0 0 ∷ get_or bs 1 0 ∷ get_or bs 2 0 ∷ get_or bs 3 0 ∷ []) ++ drop 4 bs
four [] h = absurd (omega arith)
four (a ∷ []) h = absurd (omega arith)
four (a ∷ b ∷ []) h = absurd (omega arith)
four (a ∷ b ∷ c ∷ []) h = absurd (omega arith)
four (a ∷ b ∷ c ∷ d ∷ bs) h = refl

-- the bytes begin with the record of the kind and the payload that they tell
pub begins : (bs payload : List ℕ) (n kind : ℕ) → 4 ≤ length bs → ((i : ℕ) → get_or bs i 0 < 256) → n ≡ get_or bs 0 0 + 256 * get_or bs 1 0 → kind ≡ get_or bs 2 0 + 256 * get_or bs 3 0 →
    n ≤ length (take (length bs - 4) (drop 4 bs)) → payload ≡ slice_range (take (length bs - 4) (drop 4 bs)) 0 n → (rest : List ℕ) × (bs ≡ record_of kind payload ++ rest)
begins bs payload n kind long small len is within part =
    let rest = drop 4 bs in
    let whole : take (length bs - 4) rest ≡ rest = take_all (length bs - 4) rest (omega (arith, length-drop 4 bs)) in
    let there : n ≤ length rest = subst (λ (xs : List ℕ). n ≤ length xs) whole within in
    let none : n - 0 ≡ n = omega arith in
    let part' : payload ≡ take n rest = part ∙ ap₂ (λ (xs : List ℕ) (k : ℕ). take k xs) whole none in
    let long' : length payload ≡ n = ap length part' ∙ length-take-le n rest there in
    let both : payload ++ drop n rest ≡ rest = ap (λ (xs : List ℕ). xs ++ drop n rest) part' ∙ take-append-drop n rest in
    let w : word (length payload) ≡ get_or bs 0 0 ∷ get_or bs 1 0 ∷ [] = word_by (length payload) (get_or bs 0 0) (get_or bs 1 0) (small 0) (small 1) (long' ∙ len) in
    let k : word kind ≡ get_or bs 2 0 ∷ get_or bs 3 0 ∷ [] = word_by kind (get_or bs 2 0) (get_or bs 3 0) (small 2) (small 3) is in
    let f = four bs long in
    (drop n rest, cc)

-- each item of a part is a byte where each of the whole is
pub small_part : (bs p : List ℕ) (n : ℕ) → ((i : ℕ) → get_or bs i 0 < 256) → p ≡ slice_range (take (length bs - 4) (drop 4 bs)) 0 n → (i : ℕ) → get_or p i 0 < 256
small_part bs p n small part i =
    subst (λ (xs : List ℕ). get_or xs i 0 < 256) (sym part) (small_take (n - 0) (take (length bs - 4) (drop 4 bs)) (small_take (length bs - 4) (drop 4 bs) (λ j. subst (λ (x : ℕ). x < 256) (sym (get_or-drop 4 bs j 0)) (small (4 + j)))) i)
  where
    small_take : (k : ℕ) (xs : List ℕ) → ((j : ℕ) → get_or xs j 0 < 256) → (j : ℕ) → get_or (take k xs) j 0 < 256
    small_take k xs all j =
        elim (cases_lt j k) [
          | inl l ↦ subst (λ (x : ℕ). x < 256) (sym (get_or-take k xs j 0 l)) (all j)
          | inr far ↦ subst (λ (x : ℕ). x < 256) (sym (get_or_past (take k xs) j 0 (omega (arith, length-take k xs)))) (omega arith)
        ]

-- a payload of three bytes, the last two of which are a number
pub byte_and_word : (p : List ℕ) (n : ℕ) → 3 ≤ length p → length p < 4 → ((i : ℕ) → get_or p i 0 < 256) → n ≡ get_or p 1 0 + 256 * get_or p 2 0 → p ≡ get_or p 0 0 ∷ word n
byte_and_word [] n h k small e = absurd (omega arith)
byte_and_word (a ∷ []) n h k small e = absurd (omega arith)
byte_and_word (a ∷ b ∷ []) n h k small e = absurd (omega arith)
byte_and_word (a ∷ b ∷ c ∷ []) n h k small e = ap (λ (xs : List ℕ). a ∷ xs) (sym (word_by n b c (small 1) (small 2) e))
byte_and_word (a ∷ b ∷ c ∷ d ∷ p) n h k small e = absurd (omega arith)

-- of four
pub bytes_and_word : (p : List ℕ) (n : ℕ) → 4 ≤ length p → length p < 5 → ((i : ℕ) → get_or p i 0 < 256) → n ≡ get_or p 2 0 + 256 * get_or p 3 0 → p ≡ get_or p 0 0 ∷ get_or p 1 0 ∷ word n
bytes_and_word [] n h k small e = absurd (omega arith)
bytes_and_word (a ∷ []) n h k small e = absurd (omega arith)
bytes_and_word (a ∷ b ∷ []) n h k small e = absurd (omega arith)
bytes_and_word (a ∷ b ∷ c ∷ []) n h k small e = absurd (omega arith)
bytes_and_word (a ∷ b ∷ c ∷ d ∷ []) n h k small e = ap (λ (xs : List ℕ). a ∷ b ∷ xs) (sym (word_by n c d (small 2) (small 3) e))
bytes_and_word (a ∷ b ∷ c ∷ d ∷ f ∷ p) n h k small e = absurd (omega arith)

-- of two
pub one_word : (p : List ℕ) (n : ℕ) → 2 ≤ length p → length p < 3 → ((i : ℕ) → get_or p i 0 < 256) → n ≡ get_or p 0 0 + 256 * get_or p 1 0 → p ≡ word n
one_word [] n h k small e = absurd (omega arith)
one_word (a ∷ []) n h k small e = absurd (omega arith)
one_word (a ∷ b ∷ []) n h k small e = sym (word_by n a b (small 0) (small 1) e)
one_word (a ∷ b ∷ c ∷ p) n h k small e = absurd (omega arith)

-- the record of that kind and payload, and its length
pub as_written : (bs p q : List ℕ) (n k kind : ℕ) (r : Record) → (rest : List ℕ) × (bs ≡ record_of k p ++ rest) → k ≡ kind → p ≡ q → written r ≡ record_of kind q → length p ≡ n →
    ((rest : List ℕ) × (bs ≡ written r ++ rest)) × (4 + n ≡ length (written r))
as_written bs p q n k kind r b e f w l =
    let same : record_of k p ≡ written r = ap₂ record_of e f ∙ sym w in
    ((b.0, b.1 ∙ ap (λ (xs : List ℕ). xs ++ b.0) same), omega (arith, ap length w, ap length f))
