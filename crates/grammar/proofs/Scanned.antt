-- A text of pieces has sentences with these pieces.
use Rattle.std.proofs.Common.{◌≡◌, ℕ, ◌+◌, ◌≤◌, true, false, ◌||◌, ◌==◌, List, [], ◌∷◌, ◌++◌, length, length-append, inl, inr, refl, sym, ap, ◌∙◌, subst, append_assoc, append-nil, arith}
use Rattle.std.specs.List.{list_all}
use Rattle.std.proofs.lemmas.Bool.{and_parts, or_cases, eqb-true, not-true, cases_Bool}
use Rattle.words.specs.Classes.{in_word, is_blank}
use Rattle.words.specs.Sentences.{Sentence, sentences_from}
use Rattle.words.specs.Reading.{with_first_word}
use Rattle.words.proofs.Scanning.{more, bad, at_blank, word_before, ends_at_blank, ends_at_semicolon}
use Rattle.grammar.specs.Pieces.{Piece, word, semicolon}
use Rattle.grammar.specs.Spelling.{ends_word, Spells, nothing, then_semicolon, then_word}
use Rattle.grammar.proofs.Lists.{IsWord, word_is, whole, Lexed, whole_word, pieces_word}

-- a blank stands in no word
pub blank_no_word : (b : ℕ) → is_blank b ≡ true → in_word b ≡ false
blank_no_word b h =
    elim (or_cases (b == 32 || b == 9) (b == 10 || b == 13) h) [
      | inl x ↦ elim (or_cases (b == 32) (b == 9) x) [ inl e ↦ ap in_word (eqb-true b 32 e) | inr e ↦ ap in_word (eqb-true b 9 e) ]
      | inr x ↦ elim (or_cases (b == 10) (b == 13) x) [ inl e ↦ ap in_word (eqb-true b 10 e) | inr e ↦ ap in_word (eqb-true b 13 e) ]
    ]

-- blanks are passed over
skip : (blanks rest : List ℕ) (at : ℕ) → list_all is_blank blanks ≡ true → (n : ℕ) × (sentences_from at [] [] (blanks ++ rest) ≡ sentences_from n [] [] rest)
skip [] rest at h = (at, refl)
skip (b ∷ bs) rest at h =
    let p = and_parts (is_blank b) (list_all is_blank bs) h in
    let s = skip bs rest (at + 1) p.1 in
    (s.0, at_blank at [] b (bs ++ rest) (blank_no_word b p.0) p.0 ∙ s.1)

-- the bytes of a word are read
spell : (w v rest : List ℕ) (at : ℕ) → list_all in_word w ≡ true → length v + length w ≤ 16 → (n : ℕ) × (sentences_from at [] v (w ++ rest) ≡ sentences_from n [] (v ++ w) rest)
spell [] v rest at h l = (at, ap (λ (u : List ℕ). sentences_from at [] u rest) (sym (append-nil v)))
spell (b ∷ w) v rest at h l =
    let p = and_parts (in_word b) (list_all in_word w) h in
    let k = length-append v (b ∷ []) in
    let s = spell w (v ++ (b ∷ [])) rest (at + 1) p.1 (omega arith) in
    (s.0, more at v b (w ++ rest) p.0 (omega arith) ∙ s.1 ∙ ap (λ (u : List ℕ). sentences_from s.0 [] u rest) (append_assoc v (b ∷ []) w))

-- a word that was read ends where no byte of a word follows
end : (rest : List ℕ) (at c : ℕ) (w : List ℕ) → ends_word rest ≡ true → whole (sentences_from at [] [] rest) ≡ true →
    sentences_from at [] (c ∷ w) rest ≡ with_first_word (word_before at (c ∷ w)) (sentences_from at [] [] rest)
end [] at c w ends no_fault = refl
end (b ∷ bs) at c w ends no_fault =
    let none = not-true (in_word b) ends in
    elim (cases_Bool (is_blank b)) [
      | inl blank ↦ ends_at_blank at c w b bs none blank
      | inr no_blank ↦ elim (cases_Bool (b == 59)) [
        | inl semi ↦ ends_at_semicolon at c w b bs none no_blank semi
        | inr other ↦ absurd (let f = ap whole (bad at [] b bs none no_blank other) in cc)
      ]
    ]

-- a word before the sentences of what follows it
lexed_word : (rest : List ℕ) (at : ℕ) (w : List ℕ) (ps : List Piece) → IsWord w → ends_word rest ≡ true → Lexed (sentences_from at [] [] rest) ps → Lexed (sentences_from at [] w rest) (word w ∷ ps)
lexed_word rest at [] ps is ends l = absurd (let s = is.some in omega arith)
lexed_word rest at (c ∷ w) ps is ends l =
    subst (λ (ss : List Sentence). Lexed ss (word (c ∷ w) ∷ ps)) (sym (end rest at c w ends l.whole))
    (record {
      whole = whole_word (word_before at (c ∷ w)) (sentences_from at [] [] rest) ∙ l.whole;
      pieces = pieces_word (word_before at (c ∷ w)) (sentences_from at [] [] rest) ∙ ap (λ (qs : List Piece). word (c ∷ w) ∷ qs) l.pieces;
    })

lexed_semicolon : (rest : List ℕ) (at : ℕ) (ps : List Piece) → Lexed (sentences_from (at + 1) [] [] rest) ps → Lexed (sentences_from at [] [] (59 ∷ rest)) (semicolon ∷ ps)
lexed_semicolon rest at ps l = record { whole = l.whole; pieces = ap (λ (qs : List Piece). semicolon ∷ qs) l.pieces }

-- the sentences of a text that spells pieces
pub spells_lexed : (text : List ℕ) (ps : List Piece) → Spells text ps → (at : ℕ) → Lexed (sentences_from at [] [] text) ps
spells_lexed text ps (nothing blank) at =
    let s = skip text [] at blank in
    subst (λ (ss : List Sentence). Lexed ss []) (sym (ap (sentences_from at [] []) (sym (append-nil text)) ∙ s.1)) (record { whole = refl; pieces = refl })
spells_lexed text ps (then_semicolon {ps = qs} blanks rest is blank so) at =
    let s = skip blanks (59 ∷ rest) at blank in
    subst (λ (ss : List Sentence). Lexed ss (semicolon ∷ qs)) (sym (ap (sentences_from at [] []) is ∙ s.1)) (lexed_semicolon rest s.0 qs (spells_lexed rest qs so (s.0 + 1)))
spells_lexed text ps (then_word {ps = qs} blanks w rest is blank ok ends so) at =
    let v = word_is w ok in
    let s = skip blanks (w ++ rest) at blank in
    let f = v.few in
    let r = spell w [] rest s.0 v.bytes (omega arith) in
    subst (λ (ss : List Sentence). Lexed ss (word w ∷ qs)) (sym (ap (sentences_from at [] []) is ∙ s.1 ∙ r.1)) (lexed_word rest r.0 w qs v ends (spells_lexed rest qs so r.0))
