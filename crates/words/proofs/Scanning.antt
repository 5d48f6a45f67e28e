-- Sentences, byte by byte.
use Rattle.std.proofs.Common.{◌≡◌, ℕ, ◌+◌, ◌-◌, ◌<◌, ◌≤◌, Bool, true, false, cond, ◌==◌, ltb, List, [], ◌∷◌, ◌++◌, length, refl, ap, ◌∙◌, sym}
use Rattle.std.proofs.lemmas.Bool.{lt-ltb, le-ltb, cond-true, cond-false}
use Rattle.words.specs.declared.faults.Cause.TheVariants.{BadByte, LongWord}
use Rattle.words.specs.Classes.{in_word, is_blank}
use Rattle.words.specs.Sentences.{Placed, Sentence, semicolon, text_end, fault, with_word, sentences_from}
use Rattle.words.specs.Reading.{with_first_word, ended_by}

-- the word of these bytes that ends before the place `at`
abbrev pub word_before : ℕ → List ℕ → Placed
word_before at w = record { start = at - length w; bytes = w }

-- what each kind of byte makes of the sentences, put together
begun_cond : (p : Placed) (a b c d : Bool) (A B C D E A' B' C' D' E' : List Sentence) → A' ≡ with_first_word p A → B' ≡ with_first_word p B → C' ≡ with_first_word p C → D' ≡ with_first_word p D → E' ≡ with_first_word p E →
    cond a (cond b A' B') (cond c C' (cond d D' E')) ≡ with_first_word p (cond a (cond b A B) (cond c C (cond d D E)))
begun_cond p true true c d A B C D E A' B' C' D' E' u v x y z = u
begun_cond p true false c d A B C D E A' B' C' D' E' u v x y z = v
begun_cond p false b true d A B C D E A' B' C' D' E' u v x y z = x
begun_cond p false b false true A B C D E A' B' C' D' E' u v x y z = y
begun_cond p false b false false A B C D E A' B' C' D' E' u v x y z = z

with_word_begun : (p : Placed) (ws : List Placed) (at : ℕ) (w : List ℕ) → with_word (p ∷ ws) at w ≡ p ∷ with_word ws at w
with_word_begun p ws at [] = refl
with_word_begun p ws at (b ∷ w) = refl

-- a word before the others stays before them
pub begun : (bs : List ℕ) (at : ℕ) (p : Placed) (ws : List Placed) (w : List ℕ) → sentences_from at (p ∷ ws) w bs ≡ with_first_word p (sentences_from at ws w bs)
begun [] at p ws w = ap (λ (xs : List Placed). record { words = xs; ending = text_end at } ∷ []) (with_word_begun p ws at w)
begun (b ∷ bs) at p ws w =
    begun_cond p (in_word b) (ltb (length w) 16) (is_blank b) (b == 59) _ _ _ _ _ _ _ _ _ _
    (begun bs (at + 1) p ws (w ++ (b ∷ [])))
    refl
    (ap (λ (xs : List Placed). sentences_from (at + 1) xs [] bs) (with_word_begun p ws at w) ∙ begun bs (at + 1) p (with_word ws at w) [])
    (ap (λ (xs : List Placed). record { words = xs; ending = semicolon at } ∷ sentences_from (at + 1) [] [] bs) (with_word_begun p ws at w))
    refl

module _ (at : ℕ) (w : List ℕ) (b : ℕ) (bs : List ℕ) where
  -- one byte more of a word
  pub more : in_word b ≡ true → length w < 16 → sentences_from at [] w (b ∷ bs) ≡ sentences_from (at + 1) [] (w ++ (b ∷ [])) bs
  more is short = cond-true {A = List Sentence} (in_word b) _ _ is ∙ cond-true {A = List Sentence} (ltb (length w) 16) _ _ (lt-ltb (length w) 16 short)

  -- one byte too many
  pub too_long : in_word b ≡ true → 16 ≤ length w → sentences_from at [] w (b ∷ bs) ≡ ended_by (fault LongWord at) ∷ []
  too_long is long = cond-true {A = List Sentence} (in_word b) _ _ is ∙ cond-false {A = List Sentence} (ltb (length w) 16) _ _ (le-ltb (length w) 16 long)

  -- a byte that is not allowed
  pub bad : in_word b ≡ false → is_blank b ≡ false → (b == 59) ≡ false → sentences_from at [] w (b ∷ bs) ≡ ended_by (fault BadByte at) ∷ []
  bad no_word no_blank no_semicolon =
      cond-false {A = List Sentence} (in_word b) _ _ no_word ∙ cond-false {A = List Sentence} (is_blank b) _ _ no_blank ∙ cond-false {A = List Sentence} (b == 59) _ _ no_semicolon

  pub at_blank : in_word b ≡ false → is_blank b ≡ true → sentences_from at [] w (b ∷ bs) ≡ sentences_from (at + 1) (with_word [] at w) [] bs
  at_blank no_word blank = cond-false {A = List Sentence} (in_word b) _ _ no_word ∙ cond-true {A = List Sentence} (is_blank b) _ _ blank

  pub at_semicolon : in_word b ≡ false → is_blank b ≡ false → (b == 59) ≡ true →
      sentences_from at [] w (b ∷ bs) ≡ record { words = with_word [] at w; ending = semicolon at } ∷ sentences_from (at + 1) [] [] bs
  at_semicolon no_word no_blank semi =
      cond-false {A = List Sentence} (in_word b) _ _ no_word ∙ cond-false {A = List Sentence} (is_blank b) _ _ no_blank ∙ cond-true {A = List Sentence} (b == 59) _ _ semi

-- a word that has begun ends before a blank, a semicolon and the end of the text
module _ (at c : ℕ) (w : List ℕ) where
  pub ends_at_blank : (b : ℕ) (bs : List ℕ) → in_word b ≡ false → is_blank b ≡ true →
      sentences_from at [] (c ∷ w) (b ∷ bs) ≡ with_first_word (word_before at (c ∷ w)) (sentences_from at [] [] (b ∷ bs))
  ends_at_blank b bs no_word blank =
      at_blank at (c ∷ w) b bs no_word blank ∙ begun bs (at + 1) (word_before at (c ∷ w)) [] [] ∙ ap (with_first_word (word_before at (c ∷ w))) (sym (at_blank at [] b bs no_word blank))

  pub ends_at_semicolon : (b : ℕ) (bs : List ℕ) → in_word b ≡ false → is_blank b ≡ false → (b == 59) ≡ true →
      sentences_from at [] (c ∷ w) (b ∷ bs) ≡ with_first_word (word_before at (c ∷ w)) (sentences_from at [] [] (b ∷ bs))
  ends_at_semicolon b bs no_word no_blank semi =
      at_semicolon at (c ∷ w) b bs no_word no_blank semi ∙ ap (with_first_word (word_before at (c ∷ w))) (sym (at_semicolon at [] b bs no_word no_blank semi))

  pub ends_at_end : sentences_from at [] (c ∷ w) [] ≡ with_first_word (word_before at (c ∷ w)) (sentences_from at [] [] [])
  ends_at_end = refl
