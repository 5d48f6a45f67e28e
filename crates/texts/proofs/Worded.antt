-- The words of a text's sentences stand in the text.
use Rattle.std.proofs.Common.{◌≡◌, ℕ, ◌+◌, ◌-◌, ◌≤◌, Bool, true, false, cond, ◌==◌, nat_lt, List, [], ◌∷◌, ◌++◌, length, take, drop, refl, sym, ap, ◌∙◌, append_assoc, length-append, arith}
use Rattle.std.specs.List.{AllByRecursion}
use Rattle.std.proofs.lemmas.List.{take_at, drop_at}
use Rattle.std.proofs.lemmas.Bool.{ltb-true}
use Rattle.words.specs.Classes.{in_word, is_blank}
use Rattle.words.specs.Sentences.{Placed, Sentence, Ending, semicolon, text_end, fault, with_word, sentences_from, sentences}
use Rattle.words.specs.Reading.{StandsIn}

-- P holds of each
abbrev pub Each : {X : Type 0} → (X → Type 0) → List X → Type 0
Each P xs = AllByRecursion P xs

pub each_append : {X : Type 0} (P : X → Type 0) (xs ys : List X) → Each P xs → Each P ys → Each P (xs ++ ys)
each_append P [] ys a b = b
each_append P (x ∷ xs) ys a b = (a.0, each_append P xs ys a.1 b)

-- a sentence ends in the text, or where it ends
abbrev pub EndsIn : List ℕ → Ending → Type 0
EndsIn text (semicolon n) = n ≤ length text
EndsIn text (text_end n) = n ≤ length text
EndsIn text (fault c n) = n ≤ length text

-- the words of the sentences stand in the text, and so does what ends them
abbrev pub Worded : List ℕ → List Sentence → Type 0
Worded text ss = Each (λ s. Each (StandsIn text) s.words × EndsIn text s.ending) ss

module _ (text : List ℕ) where
  -- the bytes w stand before the rest of the text
  stands : (pre w rest : List ℕ) (at : ℕ) → text ≡ pre ++ (w ++ rest) → at ≡ length pre + length w → 1 ≤ length w → length w ≤ 16 → StandsIn text (record { start = at - length w; bytes = w })
  stands pre w rest at is place some few =
      let starts : at - length w ≡ length pre = omega arith in
      record {
        within = let a = ap length is in let b = length-append pre (w ++ rest) in let c = length-append w rest in omega arith;
        bytes =
            sym
            (ap (λ (n : ℕ). take (length w) (drop n text)) starts ∙ ap (λ (bs : List ℕ). take (length w) (drop (length pre) bs)) is
            ∙ ap (take (length w)) (drop_at pre (w ++ rest) (length pre) refl) ∙ take_at w rest (length w) refl);
        some = some;
        few = few;
      }

  with_stands : (pre w rest : List ℕ) (at : ℕ) (ws : List Placed) → text ≡ pre ++ (w ++ rest) → at ≡ length pre + length w → length w ≤ 16 → Each (StandsIn text) ws → Each (StandsIn text) (with_word ws at w)
  with_stands pre [] rest at ws is place few all = all
  with_stands pre (b ∷ w) rest at ws is place few all = each_append (StandsIn text) ws _ all (stands pre (b ∷ w) rest at is place (omega arith) few, tt)

  place_in_text : (pre w rest : List ℕ) (at : ℕ) → text ≡ pre ++ (w ++ rest) → at ≡ length pre + length w → at ≤ length text
  place_in_text pre w rest at is place = let a = ap length is in let b = length-append pre (w ++ rest) in let c = length-append w rest in omega arith

  -- what each kind of byte makes of the sentences
  by_byte : (a b c d : Bool) (A B C D E : List Sentence) → (a ≡ true → b ≡ true → Worded text A) → Worded text B → Worded text C → Worded text D → Worded text E →
      Worded text (cond a (cond b A B) (cond c C (cond d D E)))
  by_byte true true c d A B C D E u v x y z = u refl refl
  by_byte true false c d A B C D E u v x y z = v
  by_byte false b true d A B C D E u v x y z = x
  by_byte false b false true A B C D E u v x y z = y
  by_byte false b false false A B C D E u v x y z = z

  from : (bs pre w : List ℕ) (at : ℕ) (ws : List Placed) → text ≡ pre ++ (w ++ bs) → at ≡ length pre + length w → length w ≤ 16 → Each (StandsIn text) ws → Worded text (sentences_from at ws w bs)
  from [] pre w at ws is place few all = ((with_stands pre w [] at ws is place few all, place_in_text pre w [] at is place), tt)
  from (b ∷ bs) pre w at ws is place few all =
      let longer = length-append w (b ∷ []) in
      let done = length-append pre (w ++ (b ∷ [])) in
      let passed : text ≡ (pre ++ (w ++ (b ∷ []))) ++ bs = is ∙ ap (λ (xs : List ℕ). pre ++ xs) (sym (append_assoc w (b ∷ []) bs)) ∙ sym (append_assoc pre (w ++ (b ∷ [])) bs) in
      let words = with_stands pre w (b ∷ bs) at ws is place few all in
      let here = place_in_text pre w (b ∷ bs) at is place in
      by_byte (in_word b) (nat_lt (length w) 16) (is_blank b) (b == 59) _ _ _ _ _
      (λ in_it short. let s = ltb-true (length w) 16 short in from bs pre (w ++ (b ∷ [])) (at + 1) ws (is ∙ ap (λ (xs : List ℕ). pre ++ xs) (sym (append_assoc w (b ∷ []) bs))) (omega arith) (omega arith) all)
      ((all, here), tt)
      (from bs (pre ++ (w ++ (b ∷ []))) [] (at + 1) (with_word ws at w) passed (omega arith) (omega arith) words)
      ((words, here), from bs (pre ++ (w ++ (b ∷ []))) [] (at + 1) [] passed (omega arith) (omega arith) tt)
      ((all, here), tt)

  pub worded : Worded text (sentences text)
  worded = from text [] [] 0 [] refl (omega arith) (omega arith) tt
