-- Items that were read one by one are those of whole instances.
use Rattle.std.proofs.Common.{◌≡◌, ℕ, zero, suc, ◌+◌, Bool, true, false, cond, List, [], ◌∷◌, ◌++◌, length, map, fold, Some, None, refl, sym, ap, ◌∙◌, arith}
use Rattle.std.proofs.lemmas.List.{append-nil, append_assoc}
use Rattle.words.specs.Sentences.{Placed, Sentence}
use Rattle.words.specs.Reading.{others}
use Rattle.sentences.specs.Wants.{among}
use Rattle.items.specs.Items.{Item, instance_named, event, instance_ends}
use Rattle.items.specs.Instances.{events_before, instances_in}
use Rattle.items.specs.Surveys.{names_in, items_in, first_repeated}
use Rattle.grammar.specs.Brackets.{bracketed, events_of}
use Rattle.grammar.proofs.Bracketing.{items_bracketed, bracketed_events}
use Rattle.texts.specs.Numbering.{added}
use Rattle.texts.specs.Directories.{named_in}
use Rattle.texts.specs.Drafts.{lengths_from, numbered}
use Rattle.texts.specs.Starts.{start_among, start_at, start_in}
use Rattle.texts.specs.Readings.{lengths_in, rows_in}
use Rattle.texts.specs.Whole.{Whole}
use Rattle.texts.proofs.Listed.{titled}

pub whole_bracketed : (ss : List Sentence) → Whole ss → bracketed false (items_in ss) ≡ true
whole_bracketed ss w = ap (bracketed false) (titled ss w) ∙ items_bracketed false (others ss) w.ends

mutual
  lengths_inside : (n : ℕ) (is : List Item) → bracketed true is ≡ true → lengths_from n is ≡ (n + length (events_before is)) ∷ lengths_in is
  lengths_inside n [] b = cc
  lengths_inside n (instance_named m ∷ is) b = cc
  lengths_inside n (event e ∷ is) b =
      lengths_inside (n + 1) is b ∙ ap (λ (k : ℕ). k ∷ lengths_in is) (let k : (n + 1) + length (events_before is) ≡ n + suc (length (events_before is)) = omega arith in k)
  lengths_inside n (instance_ends ∷ is) b = ap (λ (ls : List ℕ). n ∷ ls) (lengths_outside is b) ∙ ap (λ (k : ℕ). k ∷ lengths_in is) (let k : n ≡ n + 0 = omega arith in k)

  lengths_outside : (is : List Item) → bracketed false is ≡ true → lengths_from 0 is ≡ lengths_in is
  lengths_outside [] b = refl
  lengths_outside (instance_named m ∷ is) b = lengths_inside 0 is b ∙ ap (λ (k : ℕ). k ∷ lengths_in is) (let k : 0 + length (events_before is) ≡ length (events_before is) = omega arith in k)
  lengths_outside (event e ∷ is) b = cc
  lengths_outside (instance_ends ∷ is) b = cc

-- the lengths of the instances
pub lengths_same : (is : List Item) → bracketed false is ≡ true → lengths_from 0 is ≡ lengths_in is
lengths_same = lengths_outside

-- the rows of the events
pub rows_same : (is : List Item) → bracketed false is ≡ true → map (numbered (named_in is)) (events_of is) ≡ rows_in is
rows_same is b = ap (map (numbered (named_in is))) (sym (bracketed_events is b))

start_here : (k : ℕ) (is : List Item) → bracketed true is ≡ true → start_in zero k is ≡ start_among k (events_before is)
start_here k [] b = cc
start_here k (instance_named m ∷ is) b = cc
start_here zero (event e ∷ is) b = refl
start_here (suc k) (event e ∷ is) b = start_here k is b
start_here k (instance_ends ∷ is) b = refl

mutual
  start_later : (i k : ℕ) (is : List Item) → bracketed true is ≡ true → start_in (suc i) k is ≡ start_at i k (instances_in is)
  start_later i k [] b = cc
  start_later i k (instance_named m ∷ is) b = cc
  start_later i k (event e ∷ is) b = start_later i k is b
  start_later i k (instance_ends ∷ is) b = start_outside i k is b

  start_outside : (i k : ℕ) (is : List Item) → bracketed false is ≡ true → start_in i k is ≡ start_at i k (instances_in is)
  start_outside i k [] b = refl
  start_outside zero k (instance_named m ∷ is) b = start_here k is b
  start_outside (suc i) k (instance_named m ∷ is) b = start_later i k is b
  start_outside i k (event e ∷ is) b = cc
  start_outside i k (instance_ends ∷ is) b = cc

-- where an event starts
pub start_same : (i k : ℕ) (is : List Item) → bracketed false is ≡ true → start_in i k is ≡ start_at i k (instances_in is)
start_same = start_outside

all_new : (seen ns : List Placed) → first_repeated seen ns ≡ None → fold added seen ns ≡ seen ++ ns
all_new seen [] once = sym (append-nil seen)
all_new seen (n ∷ ns) once = go (among seen n.bytes) refl once (all_new (seen ++ (n ∷ [])) ns)
  where
    go : (b : Bool) → among seen n.bytes ≡ b → cond b (Some n) (first_repeated (seen ++ (n ∷ [])) ns) ≡ None →
        (first_repeated (seen ++ (n ∷ [])) ns ≡ None → fold added (seen ++ (n ∷ [])) ns ≡ (seen ++ (n ∷ [])) ++ ns) → fold added (cond (among seen n.bytes) seen (seen ++ (n ∷ []))) ns ≡ seen ++ (n ∷ ns)
    go true is once more = cc
    go false is once more = ap (λ (b : Bool). fold added (cond b seen (seen ++ (n ∷ []))) ns) is ∙ more once ∙ append_assoc seen (n ∷ []) ns

-- no instance is named twice
pub instances_once : (is : List Item) → first_repeated [] (names_in is) ≡ None → (named_in is).instances ≡ names_in is
instances_once is once = all_new [] (names_in is) once
