-- A table that is written out and read is the table.
use Rattle.std.proofs.Common.{◌≡◌, ℕ, ◌+◌, ◌-◌, ◌*◌, ◌^◌, ◌<◌, ◌≤◌, true, false, eqb, leb, List, [], ◌∷◌, ◌++◌, map, length, Some, None, Ok, decimal, Result, sym, refl, ap, ◌∙◌, subst, arith, length-append, rules}
use Rattle.std.specs.List.{AllByRecursion}
use Rattle.std.specs.Str.{all_ascii_digits}
use Rattle.std.proofs.lemmas.Bool.{and_parts, cond-true, eq-eqb, le-leb, ne_eqb, both_ways}
use Rattle.std.proofs.lemmas.List.Elements.{All-from_recursion}
use Rattle.std.proofs.lemmas.List.Splits.{slice_split_at, slice_split_none}
use Rattle.std.proofs.lemmas.Str.Parse.{IsNumeralModel, numerals_by_fold, tells_all_ascii_digits}
use Rattle.std.proofs.lemmas.Fmt.{decimal_nonempty, digits_decimal, digits_value-decimal}
use Rattle.charts.specs.declared.parts.Event.{Event}
use Rattle.charts.specs.Texts.{spaced}
use Rattle.tabletexts.specs.Numeral.{is_digit, numeral_after, numeral, up_to}
use Rattle.tabletexts.specs.Outcome.{Answers}
use Rattle.tabletexts.specs.declared.parts.TableText.{TableText}
use Rattle.tabletexts.specs.declared.parts.Unread.{Unread}
use Rattle.tabletexts.specs.Pieces.{pieces}
use Rattle.tabletexts.specs.Table.{Table, number_in, lengths_in, lengths_on, event_in, event_on, events_from, held, lines, reading, table_on}
use Rattle.tabletexts.specs.Written.{row, rows, written, FitsEvent, FitsTable}
use Rattle.tabletexts.proofs.Turns.{some_line}

abbrev read_on : ℕ → List ℕ → ℕ
read_on n [] = n
read_on n (c ∷ cs) = read_on (n * 10 + (c - 48)) cs

own : IsNumeralModel (λ ds. all_ascii_digits ds ≡ true) (read_on 0)
own = numerals_by_fold _ tells_all_ascii_digits read_on (search rules)

digits_read : (n : ℕ) (bs : List ℕ) → all_ascii_digits bs ≡ true → numeral_after n bs ≡ Some (read_on n bs)
digits_read n [] h = refl
digits_read n (b ∷ bs) h =
    let p = and_parts (is_digit b) (all_ascii_digits bs) h in
    cond-true (is_digit b) (numeral_after (n * 10 + (b - 48)) bs) None p.0 ∙ digits_read (n * 10 + (b - 48)) bs p.1

some_read : (bs : List ℕ) → 0 < length bs → all_ascii_digits bs ≡ true → numeral bs ≡ Some (read_on 0 bs)
some_read [] l h = absurd (omega arith)
some_read (b ∷ bs) l h = digits_read 0 (b ∷ bs) h

-- a number is read back
number_back : (m n : ℕ) → n < 2 ^ 64 → n ≤ m → number_in m (decimal n) ≡ Some n
number_back m n small h =
    ap (up_to m) (some_read (decimal n) (decimal_nonempty n small) (digits_decimal own n small) ∙ ap Some (digits_value-decimal own n small))
    ∙ cond-true (leb n m) (Some n) None (le-leb n m h)

-- no byte is s
abbrev Lacks : ℕ → List ℕ → Type 0
Lacks s bs = AllByRecursion (λ b. eqb b s ≡ false) bs

lacks_digits : (s : ℕ) (bs : List ℕ) → is_digit s ≡ false → all_ascii_digits bs ≡ true → Lacks s bs
lacks_digits s [] f h = tt
lacks_digits s (b ∷ bs) f h =
    let p = and_parts (is_digit b) (all_ascii_digits bs) h in
    (ne_eqb b s (λ e. both_ways (is_digit s) f (ap is_digit (sym e) ∙ p.0)), lacks_digits s bs f p.1)

lacks_append : (s : ℕ) (xs ys : List ℕ) → Lacks s xs → Lacks s ys → Lacks s (xs ++ ys)
lacks_append s [] ys h k = k
lacks_append s (x ∷ xs) ys h k = (h.0, lacks_append s xs ys h.1 k)

lacks_spaced : (s : ℕ) (ws : List (List ℕ)) → eqb 32 s ≡ false → AllByRecursion (Lacks s) ws → Lacks s (spaced ws)
lacks_spaced s [] n h = tt
lacks_spaced s (w ∷ []) n h = h.0
lacks_spaced s (w ∷ v ∷ vs) n h = lacks_append s w (32 ∷ spaced (v ∷ vs)) h.0 (n, lacks_spaced s (v ∷ vs) n h.1)

-- a word, and what follows the byte behind it
cut_word : (s : ℕ) (w rest : List ℕ) → Lacks s w → pieces s (w ++ (s ∷ rest)) ≡ w ∷ pieces s rest
cut_word s w rest h =
    slice_split_at (λ b. eqb b s) w s rest (All-from_recursion (λ b. eqb b s ≡ false) w h) (eq-eqb s s refl)

cut_last : (s : ℕ) (w : List ℕ) → Lacks s w → pieces s w ≡ w ∷ []
cut_last s w h = slice_split_none (λ b. eqb b s) w (All-from_recursion (λ b. eqb b s ≡ false) w h)

fields_back : (w : List ℕ) (ws : List (List ℕ)) → AllByRecursion (Lacks 32) (w ∷ ws) → pieces 32 (spaced (w ∷ ws)) ≡ w ∷ ws
fields_back w [] h = cut_last 32 w h.0
fields_back w (v ∷ vs) h = cut_word 32 w (spaced (v ∷ vs)) h.0 ∙ ap (λ ps. w ∷ ps) (fields_back v vs h.1)

-- digits hold neither a space nor a line feed
lacks_decimal : (s n : ℕ) → is_digit s ≡ false → n < 2 ^ 64 → Lacks s (decimal n)
lacks_decimal s n f small = lacks_digits s (decimal n) f (digits_decimal own n small)

abbrev Small : List ℕ → Type 0
Small ns = AllByRecursion (λ n. n < 65536) ns

lacks_all : (s : ℕ) (ns : List ℕ) → is_digit s ≡ false → Small ns → AllByRecursion (Lacks s) (map decimal ns)
lacks_all s [] f h = tt
lacks_all s (n ∷ ns) f h = (lacks_decimal s n f (let l = h.0 in omega arith), lacks_all s ns f h.1)

lengths_in_lem : (ns : List ℕ) → Small ns → lengths_in (map decimal ns) ≡ Ok ns
lengths_in_lem [] h = refl
lengths_in_lem (n ∷ ns) h =
    let l = h.0 in
    rw (number_back 65535 n (omega arith) (omega arith), lengths_in_lem ns h.1) refl

-- a line that is not empty has the lengths in its fields
some_fields : (line : List ℕ) → 0 < length line → lengths_on line ≡ lengths_in (pieces 32 line)
some_fields [] l = absurd (omega arith)
some_fields (b ∷ bs) l = refl

spaced_some : (n : ℕ) (ws : List (List ℕ)) → n < 2 ^ 64 → 0 < length (spaced (decimal n ∷ ws))
spaced_some n [] small = decimal_nonempty n small
spaced_some n (w ∷ ws) small = simp length-append (let l = decimal_nonempty n small in omega arith)

lengths_back : (ns : List ℕ) → Small ns → lengths_on (spaced (map decimal ns)) ≡ Ok ns
lengths_back [] h = refl
lengths_back (n ∷ ns) h =
    let l = h.0 in
    some_fields (spaced (map decimal (n ∷ ns))) (spaced_some n (map decimal ns) (omega arith))
    ∙ ap lengths_in (fields_back (decimal n) (map decimal ns) (lacks_all 32 (n ∷ ns) refl h))
    ∙ lengths_in_lem (n ∷ ns) h

lacks_row : (s : ℕ) (e : Event) → is_digit s ≡ false → FitsEvent e → AllByRecursion (Lacks s) (decimal e.kind ∷ decimal e.peer ∷ decimal e.number ∷ [])
lacks_row s e f h = (
  lacks_decimal s e.kind f (omega arith),
  (lacks_decimal s e.peer f (omega arith), (lacks_decimal s e.number f (omega arith), tt)),
)

event_back : (e : Event) → FitsEvent e → event_on (row e) ≡ Some e
event_back e h =
    ap event_in (fields_back (decimal e.kind) (decimal e.peer ∷ decimal e.number ∷ []) (lacks_row 32 e refl h))
    ∙ rw (number_back 255 e.kind (omega arith) (omega arith), number_back 255 e.peer (omega arith) (omega arith), number_back 65535 e.number (omega arith) (omega arith)) refl

rows_back : (k : ℕ) (es : List Event) → AllByRecursion FitsEvent es → events_from k (lines (rows es)) ≡ Ok es
rows_back k [] h = refl
rows_back k (e ∷ es) h =
    let kind = h.0.kind in
    ap (events_from k) (cut_word 10 (row e) (rows es) (lacks_spaced 10 (decimal e.kind ∷ decimal e.peer ∷ decimal e.number ∷ []) refl (lacks_row 10 e refl h.0)))
    ∙ some_line k (row e) (lines (rows es)) (spaced_some e.kind (decimal e.peer ∷ decimal e.number ∷ []) (omega arith))
    ∙ rw (event_back e h.0, rows_back (k + 1) es h.1) refl

table_back : (t : Table) → FitsTable t → reading (written t) ≡ Ok t
table_back t h =
    ap table_on (cut_word 10 (spaced (map decimal t.lengths)) (rows t.events) (lacks_spaced 10 (map decimal t.lengths) refl (lacks_all 10 t.lengths refl h.lengths)))
    ∙ rw (lengths_back t.lengths h.lengths, rows_back 2 t.events h.events) refl

-- what is read of a text, and so of a written table
pub read_back : (text : List ℕ) (r : Result TableText Unread) → Answers held (reading text) r → record { value : Answers held (reading text) r; back : (t : Table) → FitsTable t → text ≡ written t → Answers held (Ok t) r }
read_back text r a = record { value = a; back = λ t h e. subst (λ s. Answers held s r) (ap reading e ∙ table_back t h) a }
