-- A text whose sentences end in no fault spells their pieces.
use Rattle.std.proofs.Common.{◌≡◌, ℕ, ◌+◌, ◌≤◌, true, false, not, ◌==◌, inl, inr, List, [], ◌∷◌, ◌++◌, length, refl, sym, ap, ◌∙◌, subst, append_assoc, length-append, arith}
use Rattle.std.specs.List.{list_all}
use Rattle.std.proofs.lemmas.Bool.{and_from, eqb-true, cases_Bool, cases_lt}
use Rattle.std.proofs.lemmas.List.Folds.{list_all-append}
use Rattle.words.specs.Classes.{in_word, is_blank}
use Rattle.words.specs.Sentences.{Placed, Sentence, sentences_from}
use Rattle.words.specs.Reading.{with_first_word}
use Rattle.words.proofs.Scanning.{more, too_long, bad, at_blank, at_semicolon, word_before, ends_at_blank, ends_at_semicolon}
use Rattle.grammar.specs.Pieces.{Piece, semicolon}
use Rattle.grammar.specs.Spelling.{is_word, ends_word, Spells, nothing, then_semicolon, then_word}
use Rattle.grammar.proofs.Lists.{a_word, whole, pieces_in, whole_word, pieces_word}

-- where no sentence ends in a fault, the text spells their pieces
abbrev pub Spelled : List ℕ → List Sentence → Type 0
Spelled text ss = whole ss ≡ true → Spells text (pieces_in ss)

-- a blank before the text
blank_before : (b : ℕ) (text : List ℕ) (ps : List Piece) → is_blank b ≡ true → Spells text ps → Spells (b ∷ text) ps
blank_before b text ps h (nothing blank) = nothing (and_from (is_blank b) (list_all is_blank text) h blank)
blank_before b text ps h (then_semicolon blanks rest is blank so) =
    then_semicolon (b ∷ blanks) rest (ap (λ (bs : List ℕ). b ∷ bs) is) (and_from (is_blank b) (list_all is_blank blanks) h blank) so
blank_before b text ps h (then_word blanks w rest is blank ok ends so) =
    then_word (b ∷ blanks) w rest (ap (λ (bs : List ℕ). b ∷ bs) is) (and_from (is_blank b) (list_all is_blank blanks) h blank) ok ends so

-- a word before the text
word_first : (p : Placed) (rest : List ℕ) (ss : List Sentence) → is_word p.bytes ≡ true → ends_word rest ≡ true → Spelled rest ss → Spelled (p.bytes ++ rest) (with_first_word p ss)
word_first p rest ss is ends so no_fault =
    subst (Spells (p.bytes ++ rest)) (sym (pieces_word p ss)) (then_word [] p.bytes rest refl refl is ends (so (sym (whole_word p ss) ∙ no_fault)))

-- a semicolon before the text
semicolon_first : (b : ℕ) (text : List ℕ) (ps : List Piece) → b ≡ 59 → Spells text ps → Spells (b ∷ text) (semicolon ∷ ps)
semicolon_first b text ps is so = then_semicolon [] text (ap (λ (x : ℕ). x ∷ text) is) refl so

module _ (b : ℕ) (bs : List ℕ) (at : ℕ) (so : (n : ℕ) → Spelled bs (sentences_from n [] [] bs)) (none : in_word b ≡ false) where
  -- where no word was begun before the byte
  between : Spelled (b ∷ bs) (sentences_from at [] [] (b ∷ bs))
  between =
      elim (cases_Bool (is_blank b)) [
        | inl blank ↦ subst (Spelled (b ∷ bs)) (sym (at_blank at [] b bs none blank)) (λ no_fault. blank_before b bs _ blank (so (at + 1) no_fault))
        | inr no_blank ↦ elim (cases_Bool (b == 59)) [
          | inl semi ↦ subst (Spelled (b ∷ bs)) (sym (at_semicolon at [] b bs none no_blank semi)) (λ no_fault. semicolon_first b bs _ (eqb-true b 59 semi) (so (at + 1) no_fault))
          | inr other ↦ subst (Spelled (b ∷ bs)) (sym (bad at [] b bs none no_blank other)) (λ no_fault. absurd (let f = no_fault in cc))
        ]
      ]

  -- where a word ends before it
  behind : (c : ℕ) (w : List ℕ) → is_word (c ∷ w) ≡ true → Spelled ((c ∷ w) ++ (b ∷ bs)) (sentences_from at [] (c ∷ w) (b ∷ bs))
  behind c w is =
      let ends : ends_word (b ∷ bs) ≡ true = ap not none in
      let after = word_first (word_before at (c ∷ w)) (b ∷ bs) (sentences_from at [] [] (b ∷ bs)) is ends between in
      elim (cases_Bool (is_blank b)) [
        | inl blank ↦ subst (Spelled ((c ∷ w) ++ (b ∷ bs))) (sym (ends_at_blank at c w b bs none blank)) after
        | inr no_blank ↦ elim (cases_Bool (b == 59)) [
          | inl semi ↦ subst (Spelled ((c ∷ w) ++ (b ∷ bs))) (sym (ends_at_semicolon at c w b bs none no_blank semi)) after
          | inr other ↦ subst (Spelled ((c ∷ w) ++ (b ∷ bs))) (sym (bad at (c ∷ w) b bs none no_blank other)) (λ no_fault. absurd (let f = no_fault in cc))
        ]
      ]

  either : (w : List ℕ) → list_all in_word w ≡ true → length w ≤ 16 → Spelled (w ++ (b ∷ bs)) (sentences_from at [] w (b ∷ bs))
  either [] h l = between
  either (c ∷ w) h l = behind c w (a_word (c ∷ w) (omega arith) l h)

-- one byte more of a word
longer : (w : List ℕ) (b : ℕ) → list_all in_word w ≡ true → in_word b ≡ true → list_all in_word (w ++ (b ∷ [])) ≡ true
longer w b h is = list_all-append in_word w (b ∷ []) ∙ and_from (list_all in_word w) (list_all in_word (b ∷ [])) h (and_from (in_word b) true is refl)

-- the text after the bytes of a word that was begun
pub lexed_spells : (bs : List ℕ) (at : ℕ) (w : List ℕ) → list_all in_word w ≡ true → length w ≤ 16 → Spelled (w ++ bs) (sentences_from at [] w bs)
lexed_spells [] at [] h l = λ no_fault. nothing refl
lexed_spells [] at (c ∷ w) h l = λ no_fault. then_word [] (c ∷ w) [] refl refl (a_word (c ∷ w) (omega arith) l h) refl (nothing refl)
lexed_spells (b ∷ bs) at w h l =
    elim (cases_Bool (in_word b)) [
      | inl is ↦ elim (cases_lt (length w) 16) [
        | inl short ↦
            let k = length-append w (b ∷ []) in
            let so = lexed_spells bs (at + 1) (w ++ (b ∷ [])) (longer w b h is) (omega arith) in
            subst (Spelled (w ++ (b ∷ bs))) (sym (more at w b bs is short))
            (subst (λ (text : List ℕ). Spelled text (sentences_from (at + 1) [] (w ++ (b ∷ [])) bs)) (append_assoc w (b ∷ []) bs) so)
        | inr long ↦ subst (Spelled (w ++ (b ∷ bs))) (sym (too_long at w b bs is long)) (λ no_fault. absurd (let f = no_fault in cc))
      ]
      | inr none ↦ either b bs at (λ n. lexed_spells bs n [] refl (omega arith)) none w h l
    ]
