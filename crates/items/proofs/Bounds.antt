-- A text has no more items than bytes, and one.
use Rattle.std.proofs.Common.{ℕ, suc, ◌+◌, ◌≤◌, Bool, true, false, cond, ◌==◌, ltb, List, [], ◌∷◌, ◌++◌, length, Ok, Err, Result, codes, arith}
use Rattle.std.specs.Str.{bytes_eq}
use Rattle.words.specs.declared.faults.Fault.{Fault}
use Rattle.words.specs.Classes.{in_word, is_blank}
use Rattle.words.specs.Sentences.{Placed, Sentence, Ending, with_word, sentences_from, sentences}
use Rattle.words.specs.Reading.{others}
use Rattle.sentences.specs.Wants.{closed, reserved}
use Rattle.sentences.specs.Events.{EventWords, event_in}
use Rattle.items.specs.Items.{Items, instance_ends, with_item, if_closed, if_event, heading, outside_by, inside_by, items_from}

few_cond : (a b c d : Bool) (A B C D E : List Sentence) (n : ℕ) → length A ≤ n → length B ≤ n → length C ≤ n → length D ≤ n → length E ≤ n →
    length (cond a (cond b A B) (cond c C (cond d D E))) ≤ n
few_cond true true c d A B C D E n u v x y z = u
few_cond true false c d A B C D E n u v x y z = v
few_cond false b true d A B C D E n u v x y z = x
few_cond false b false true A B C D E n u v x y z = y
few_cond false b false false A B C D E n u v x y z = z

sentences_few : (bs : List ℕ) (at : ℕ) (ws : List Placed) (w : List ℕ) → length (sentences_from at ws w bs) ≤ suc (length bs)
sentences_few [] at ws w = omega arith
sentences_few (b ∷ bs) at ws w =
    few_cond (in_word b) (ltb (length w) 16) (is_blank b) (b == 59) _ _ _ _ _ (suc (suc (length bs)))
    (let h = sentences_few bs (at + 1) ws (w ++ (b ∷ [])) in omega arith) (omega arith)
    (let h = sentences_few bs (at + 1) (with_word ws at w) [] in omega arith)
    (let h = sentences_few bs (at + 1) [] [] in omega arith) (omega arith)

-- how many items they are
abbrev many : Items → ℕ
many is = length is.items

closed_few : (r : Result (List Placed) Fault) (is : Items) → many (if_closed r is) ≤ many is
closed_few (Ok ws) is = omega arith
closed_few (Err f) is = omega arith

event_few : (r : Result EventWords Fault) (is : Items) → many (if_event r is) ≤ suc (many is)
event_few (Ok e) is = omega arith
event_few (Err f) is = omega arith

cond_few : (b : Bool) (x y : Items) (n : ℕ) → many x ≤ n → many y ≤ n → many (cond b x y) ≤ n
cond_few true x y n u v = u
cond_few false x y n u v = v

heading_few : (ws : List Placed) (e : Ending) (inside : Items) → many (heading ws e inside) ≤ suc (many inside)
heading_few [] e inside = omega arith
heading_few (w ∷ ws) e inside = cond_few (reserved w.bytes) _ _ (suc (many inside)) (omega arith) (let h = closed_few (closed ws e) inside in omega arith)

outside_few : (ws : List Placed) (e : Ending) (inside end : Items) (n : ℕ) → many inside ≤ n → many end ≤ n → many (outside_by ws e inside end) ≤ suc n
outside_few [] e inside end n u v = omega arith
outside_few (w ∷ ws) e inside end n u v =
    cond_few (bytes_eq w.bytes (codes "instance")) _ _ (suc n) (let h = heading_few ws e inside in omega arith)
    (cond_few (bytes_eq w.bytes (codes "endmsc")) _ _ (suc n) (let h = closed_few (closed ws e) end in omega arith) (omega arith))

inside_few : (ws : List Placed) (e : Ending) (inside outside : Items) (n : ℕ) → many inside ≤ n → many outside ≤ n → many (inside_by ws e inside outside) ≤ suc n
inside_few [] e inside outside n u v = omega arith
inside_few (w ∷ ws) e inside outside n u v =
    cond_few (bytes_eq w.bytes (codes "endinstance")) _ _ (suc n) (let h = closed_few (closed ws e) (with_item instance_ends outside) in omega arith)
    (let h = event_few (event_in w (record { words = ws; ending = e })) inside in omega arith)

items_few : (b : Bool) (ss : List Sentence) → many (items_from b ss) ≤ length ss
items_few b [] = omega arith
items_few true (s ∷ ss) = inside_few s.words s.ending _ _ (length ss) (items_few true ss) (items_few false ss)
items_few false (s ∷ ss) = outside_few s.words s.ending _ _ (length ss) (items_few true ss) (omega arith)

others_few : (ss : List Sentence) → length (others ss) ≤ length ss
others_few [] = omega arith
others_few (s ∷ ss) = omega arith

pub text_few : (text : List ℕ) → many (items_from false (others (sentences text))) ≤ suc (length text)
text_few text =
    let a = items_few false (others (sentences text)) in
    let b = others_few (sentences text) in
    let c = sentences_few text 0 [] [] in
    omega arith
