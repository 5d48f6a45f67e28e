-- Reading a word, byte by byte.
use Rattle.std.proofs.Common.{◌≡◌, ℕ, zero, suc, ◌+◌, ◌-◌, ◌<◌, ◌≤◌, true, false, ◌==◌, List, [], ◌∷◌, ◌++◌, length, take, drop, get_or, Ok, Err, sym, ap, ap₂, ◌∙◌, subst, arith}
use Rattle.std.proofs.lemmas.List.{length-take-le, length-drop, get_or-drop, take_more}
use Rattle.std.proofs.lemmas.Bool.{both_ways}
use Rattle.std.proofs.Math.ListN.{drop_of_length-le}
use Rattle.words.specs.declared.faults.Cause.TheVariants.{BadByte, LongWord}
use Rattle.words.specs.Classes.{in_word, is_blank}
use Rattle.words.specs.Sentences.{sentences_from}
use Rattle.words.specs.Reading.{WordFrom, with_first_word, word_in}
use Rattle.words.proofs.Scanning.{more, too_long, bad, word_before, ends_at_blank, ends_at_semicolon, ends_at_end}
use Rattle.words.proofs.Skipping.{byte_first}

-- the first k bytes from `start` on are those of a word
pub record Spelled (text : List ℕ) (start k : ℕ) : Type 0 where
  pub short : k ≤ 16
  pub same : sentences_from start [] [] (drop start text) ≡ sentences_from (start + k) [] (take k (drop start text)) (drop (start + k) text)

pub spelled_none : (text : List ℕ) (start : ℕ) → Spelled text start 0
spelled_none text start =
    record { short = omega arith; same = ap (λ (n : ℕ). sentences_from n [] [] (drop n text)) (let e : start ≡ start + 0 = omega arith in e) }

-- a word that was begun ends before a blank, a semicolon or the end of the text
before_blank : (at : ℕ) (w : List ℕ) → 1 ≤ length w → (b : ℕ) (bs : List ℕ) → in_word b ≡ false → is_blank b ≡ true →
    sentences_from at [] w (b ∷ bs) ≡ with_first_word (word_before at w) (sentences_from at [] [] (b ∷ bs))
before_blank at [] l = absurd (omega arith)
before_blank at (c ∷ w) l = ends_at_blank at c w

before_semicolon : (at : ℕ) (w : List ℕ) → 1 ≤ length w → (b : ℕ) (bs : List ℕ) → in_word b ≡ false → is_blank b ≡ false → (b == 59) ≡ true →
    sentences_from at [] w (b ∷ bs) ≡ with_first_word (word_before at w) (sentences_from at [] [] (b ∷ bs))
before_semicolon at [] l = absurd (omega arith)
before_semicolon at (c ∷ w) l = ends_at_semicolon at c w

before_end : (at : ℕ) (w : List ℕ) → 1 ≤ length w → sentences_from at [] w [] ≡ with_first_word (word_before at w) (sentences_from at [] [] [])
before_end at [] l = absurd (omega arith)
before_end at (c ∷ w) l = ends_at_end at c w

module _ (text : List ℕ) (start k : ℕ) (so : Spelled text start k) where
  -- the bytes so far
  abbrev pub w : List ℕ
  w = take k (drop start text)

  w_long : start + k ≤ length text → length w ≡ k
  w_long l = length-take-le k (drop start text) (let d = length-drop start text in omega arith)

  -- they are the word from `start` to here
  w_word : start + k ≤ length text → word_before (start + k) w ≡ word_in text start (start + k)
  w_word l =
      let n = w_long l in
      ap₂ (λ (s : ℕ) (bs : List ℕ). record { start = s; bytes = bs }) (let e : start + k - length w ≡ start = omega arith in e)
      (ap (λ (n : ℕ). take n (drop start text)) (let e : k ≡ start + k - start = omega arith in e))

  -- the first byte is one of a word, so one that is none is not the first
  pub not_first : (b : ℕ) → b ≡ get_or text (start + k) 0 → in_word (get_or text start 0) ≡ true → in_word b ≡ false → 1 ≤ k
  not_first b is first none = go k is
    where
      go : (n : ℕ) → b ≡ get_or text (start + n) 0 → 1 ≤ n
      go zero e = absurd (both_ways (in_word b) none (ap in_word (e ∙ ap (λ (n : ℕ). get_or text n 0) (let z : start + 0 ≡ start = omega arith in z)) ∙ first))
      go (suc n) e = omega arith

  module _ (l : start + k < length text) where
    abbrev pub b : ℕ
    b = get_or text (start + k) 0

    abbrev pub bs : List ℕ
    bs = drop (start + (k + 1)) text

    here : sentences_from start [] [] (drop start text) ≡ sentences_from (start + k) [] w (b ∷ bs)
    here = so.same ∙ ap (sentences_from (start + k) [] w) (byte_first text start k l)

    pub spelled_more : in_word b ≡ true → k < 16 → Spelled text start (k + 1)
    spelled_more is short =
        let n = w_long (omega arith) in
        record {
          short = omega arith;
          same =
              here ∙ more (start + k) w b bs is (omega arith)
              ∙ ap₂ (λ (n : ℕ) (v : List ℕ). sentences_from n [] v bs) (let e : start + k + 1 ≡ start + (k + 1) = omega arith in e)
              (ap (λ (x : ℕ). w ++ (x ∷ [])) (sym (get_or-drop start text k 0)) ∙ sym (take_more (drop start text) k 0 (let d = length-drop start text in omega arith)));
        }

    pub spelled_long : in_word b ≡ true → 16 ≤ k → WordFrom text start (Err (record { cause = LongWord; byte = start + k }))
    spelled_long is long = let n = w_long (omega arith) in here ∙ too_long (start + k) w b bs is (omega arith)

    pub spelled_bad : in_word b ≡ false → is_blank b ≡ false → (b == 59) ≡ false → WordFrom text start (Err (record { cause = BadByte; byte = start + k }))
    spelled_bad x y z = here ∙ bad (start + k) w b bs x y z

    -- what is left behind the word begins with the byte
    others : sentences_from (start + k) [] [] (b ∷ bs) ≡ sentences_from (start + k) [] [] (drop (start + k) text)
    others = ap (sentences_from (start + k) [] []) (sym (byte_first text start k l))

    pub spelled_blank : 1 ≤ k → in_word b ≡ false → is_blank b ≡ true → WordFrom text start (Ok (start + k))
    spelled_blank some x y =
        let n = w_long (omega arith) in (
          omega arith,
          omega arith,
          let m = so.short in omega arith,
          here ∙ before_blank (start + k) w (omega arith) b bs x y ∙ ap₂ with_first_word (w_word (omega arith)) others,
        )

    pub spelled_semicolon : 1 ≤ k → in_word b ≡ false → is_blank b ≡ false → (b == 59) ≡ true → WordFrom text start (Ok (start + k))
    spelled_semicolon some x y z =
        let n = w_long (omega arith) in (
          omega arith,
          omega arith,
          let m = so.short in omega arith,
          here ∙ before_semicolon (start + k) w (omega arith) b bs x y z ∙ ap₂ with_first_word (w_word (omega arith)) others,
        )

  -- the text ends
  pub spelled_end : 1 ≤ k → start + k ≡ length text → WordFrom text start (Ok (length text))
  spelled_end some all =
      let n = w_long (omega arith) in
      let none : drop (start + k) text ≡ [] = drop_of_length-le text (omega arith) in
      subst (λ (e : ℕ). WordFrom text start (Ok e)) all (
        omega arith,
        omega arith,
        let m = so.short in omega arith,
        so.same ∙ ap (sentences_from (start + k) [] w) none ∙ before_end (start + k) w (omega arith)
            ∙ ap₂ with_first_word (w_word (omega arith)) (ap (sentences_from (start + k) [] []) (sym none)),
      )
