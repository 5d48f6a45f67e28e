-- Skipping blanks, byte by byte.
use Rattle.std.proofs.Common.{◌≡◌, ℕ, suc, ◌+◌, ◌-◌, ◌<◌, ◌≤◌, true, false, List, [], ◌∷◌, length, take, drop, get_or, ap, ◌∙◌, arith}
use Rattle.std.proofs.lemmas.List.{take_rest, get_or-drop, length-drop}
use Rattle.std.proofs.Math.Seq.{drop-cons}
use Rattle.words.specs.Classes.{in_word, is_blank}
use Rattle.words.specs.Sentences.{sentences_from}
use Rattle.words.specs.Reading.{SkipsBlanks}
use Rattle.words.proofs.Scanning.{at_blank}

-- the bytes of the text from the place `at` on, as code cuts them off
abbrev pub rest_of : List ℕ → ℕ → List ℕ
rest_of text at = take (length text - at) (drop at text)

module _ (text : List ℕ) (at k : ℕ) where
  pub byte_of_rest : get_or (rest_of text at) k 0 ≡ get_or text (at + k) 0
  byte_of_rest = ap (λ (bs : List ℕ). get_or bs k 0) (take_rest text at) ∙ get_or-drop at text k 0

  pub within_text : at ≤ length text → k < length (rest_of text at) → at + k < length text
  within_text h l = let a = ap length (take_rest text at) in let b = length-drop at text in omega arith

  pub rest_ends : at ≤ length text → k ≤ length (rest_of text at) → (k < length (rest_of text at) → ⊥) → at + k ≡ length text
  rest_ends h most l = let a = ap length (take_rest text at) in let b = length-drop at text in omega (arith, l)

  -- the bytes from there on begin with it
  pub byte_first : at + k < length text → drop (at + k) text ≡ get_or text (at + k) 0 ∷ drop (at + (k + 1)) text
  byte_first l = drop-cons text (at + k) 0 l ∙ ap (λ (n : ℕ). get_or text (at + k) 0 ∷ drop n text) (let e : suc (at + k) ≡ at + (k + 1) = omega arith in e)

-- the first k bytes from `at` on are blanks
pub record Skipped (text : List ℕ) (at k : ℕ) : Type 0 where
  pub same : sentences_from at [] [] (drop at text) ≡ sentences_from (at + k) [] [] (drop (at + k) text)

pub skipped_none : (text : List ℕ) (at : ℕ) → Skipped text at 0
skipped_none text at = record { same = ap (λ (n : ℕ). sentences_from n [] [] (drop n text)) (let e : at ≡ at + 0 = omega arith in e) }

pub skipped_more : (text : List ℕ) (at k : ℕ) → Skipped text at k → at + k < length text → in_word (get_or text (at + k) 0) ≡ false → is_blank (get_or text (at + k) 0) ≡ true →
    Skipped text at (k + 1)
skipped_more text at k so l no_word blank =
    record {
      same =
          so.same ∙ ap (sentences_from (at + k) [] []) (byte_first text at k l) ∙ at_blank (at + k) [] (get_or text (at + k) 0) (drop (at + (k + 1)) text) no_word blank
          ∙ ap (λ (n : ℕ). sentences_from n [] [] (drop (at + (k + 1)) text)) (let e : at + k + 1 ≡ at + (k + 1) = omega arith in e);
    }

pub skipped_all : (text : List ℕ) (at k : ℕ) → Skipped text at k → at + k ≡ length text → SkipsBlanks text at (length text)
skipped_all text at k so all =
    record {
      within = omega arith;
      same = so.same ∙ ap (λ (n : ℕ). sentences_from n [] [] (drop n text)) all;
      stops = λ l. absurd (omega arith);
    }
