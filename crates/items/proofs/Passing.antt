-- Names of instances among the items that were read.
use Rattle.std.proofs.Common.{◌≡◌, ℕ, zero, suc, ◌+◌, ◌<◌, ◌≤◌, Bool, true, false, ◌||◌, List, [], ◌∷◌, ◌++◌, length, take, drop, refl, sym, ap, ◌∙◌, subst, add-one, arith}
use Rattle.std.proofs.lemmas.List.{append-nil}
use Rattle.std.specs.Str.{bytes_eq}
use Rattle.words.specs.Sentences.{Placed}
use Rattle.sentences.specs.Wants.{among}
use Rattle.words.specs.Reading.{placed}
use Rattle.sentences.specs.Events.{event_words}
use Rattle.items.specs.declared.parts.Item.{Item as Read}
use Rattle.items.specs.declared.parts.Item.TheVariants.{Instance, Event, InstanceEnd, End}
use Rattle.items.specs.Items.{Item, Items, instance_named, event, instance_ends, with_item}
use Rattle.items.specs.Parsing.{BeginsWithItem}
use Rattle.items.specs.Surveys.{names_in, is_named}

or_true : (a : Bool) → (a || true) ≡ true
or_true true = refl
or_true false = refl

-- the items of a list and then of another
pub names_append : (is js : List Item) → names_in (is ++ js) ≡ names_in is ++ names_in js
names_append [] js = refl
names_append (instance_named n ∷ is) js = ap (λ (ns : List Placed). n ∷ ns) (names_append is js)
names_append (event e ∷ is) js = names_append is js
names_append (instance_ends ∷ is) js = names_append is js

pub among_push : (ns : List Placed) (n : Placed) (name : List ℕ) → among (ns ++ (n ∷ [])) name ≡ (among ns name || bytes_eq n.bytes name)
among_push [] n name = go (bytes_eq n.bytes name)
  where
    go : (b : Bool) → (b || false) ≡ (false || b)
    go true = refl
    go false = refl
among_push (m ∷ ns) n name = ap (λ (b : Bool). bytes_eq m.bytes name || b) (among_push ns n name) ∙ go (bytes_eq m.bytes name)
  where
    go : (b : Bool) → (b || (among ns name || bytes_eq n.bytes name)) ≡ ((b || among ns name) || bytes_eq n.bytes name)
    go true = refl
    go false = refl

-- the item at a place, and those after it
pub split_at : (k : ℕ) (all : List Item) (i : Item) (rest : List Item) → drop k all ≡ i ∷ rest → (take (suc k) all ≡ take k all ++ (i ∷ [])) × (drop (suc k) all ≡ rest)
split_at zero [] i rest is = absurd (let l = ap length is in omega arith)
split_at zero (x ∷ xs) i rest is = let same : x ≡ i = cc in let others : xs ≡ rest = cc in (ap (λ (z : Item). z ∷ []) same, others)
split_at (suc k) [] i rest is = absurd (let l = ap length is in omega arith)
split_at (suc k) (x ∷ xs) i rest is = let s = split_at k xs i rest is in (ap (λ (zs : List Item). x ∷ zs) s.0, s.1)

past : (k count : ℕ) (all : List Item) → drop k all ≡ [] → k ≤ count → take count all ≡ take k all
past zero zero [] is l = refl
past zero (suc count) [] is l = refl
past zero count (x ∷ xs) is l = absurd (let z = ap length is in omega arith)
past (suc k) zero all is l = absurd (omega arith)
past (suc k) (suc count) [] is l = refl
past (suc k) (suc count) (x ∷ xs) is l = ap (λ (zs : List Item). x ∷ zs) (past k count xs is (omega arith))

drop_past : (k : ℕ) (all : List Item) → drop k all ≡ [] → drop (suc k) all ≡ []
drop_past zero [] is = refl
drop_past zero (x ∷ xs) is = absurd (let z = ap length is in omega arith)
drop_past (suc k) [] is = refl
drop_past (suc k) (x ∷ xs) is = drop_past k xs is

-- an instance of this name among the first `count` items
found : (k : ℕ) (all : List Item) (n : Placed) (rest : List Item) (count : ℕ) (name : List ℕ) → drop k all ≡ instance_named n ∷ rest → k < count → bytes_eq n.bytes name ≡ true →
    among (names_in (take count all)) name ≡ true
found k all n rest zero name is l same = absurd (omega arith)
found zero [] n rest (suc count) name is l same = absurd (let z = ap length is in omega arith)
found zero (x ∷ xs) n rest (suc count) name is l same =
    let first : x ≡ instance_named n = cc in
    ap (λ (z : Item). among (names_in (z ∷ take count xs)) name) first ∙ ap (λ (b : Bool). b || among (names_in (take count xs)) name) same
found (suc k) [] n rest (suc count) name is l same = absurd (let z = ap length is in omega arith)
found (suc k) (instance_named m ∷ xs) n rest (suc count) name is l same =
    ap (λ (b : Bool). bytes_eq m.bytes name || b) (found k xs n rest count name is (omega arith) same) ∙ or_true (bytes_eq m.bytes name)
found (suc k) (event e ∷ xs) n rest (suc count) name is l same = found k xs n rest count name is (omega arith) same
found (suc k) (instance_ends ∷ xs) n rest (suc count) name is l same = found k xs n rest count name is (omega arith) same

-- k items were read, none of them an instance of this name
pub record Passed (all : List Item) (k : ℕ) (left : List Item) (name : List ℕ) : Type 0 where
  pub left_is : left ≡ drop k all
  pub none : among (names_in (take k all)) name ≡ false

pub passed_none : (all left : List Item) (name : List ℕ) → all ≡ left → Passed all 0 left name
passed_none all left name is = record { left_is = sym is; none = refl }

none_more : (done : List Item) (i : Item) (name : List ℕ) → among (names_in done) name ≡ false → among (names_in (i ∷ [])) name ≡ false → among (names_in (done ++ (i ∷ []))) name ≡ false
none_more done (instance_named n) name none o =
    ap (λ (ns : List Placed). among ns name) (names_append done (instance_named n ∷ [])) ∙ among_push (names_in done) n name ∙ go (among (names_in done) name) (bytes_eq n.bytes name) none o
  where
    go : (a b : Bool) → a ≡ false → (b || false) ≡ false → (a || b) ≡ false
    go true b x y = cc
    go false true x y = y
    go false false x y = refl
none_more done (event e) name none o = ap (λ (ns : List Placed). among ns name) (names_append done (event e ∷ []) ∙ append-nil (names_in done)) ∙ none
none_more done instance_ends name none o = ap (λ (ns : List Placed). among ns name) (names_append done (instance_ends ∷ []) ∙ append-nil (names_in done)) ∙ none

module _ (all : List Item) (k : ℕ) (before after : Items) (name : List ℕ) (p : Passed all k before.items name) where
  one_more : (i : Item) → before ≡ with_item i after → among (names_in (i ∷ [])) name ≡ false → Passed all (suc k) after.items name
  one_more i is other =
      let s = split_at k all i after.items (sym p.left_is ∙ ap (λ (x : Items). x.items) is) in
      record { left_is = sym s.1; none = ap (λ (x : List Item). among (names_in x) name) s.0 ∙ none_more (take k all) i name p.none other }

  -- one item more, which is none of this name
  go_on : (i : Read) → BeginsWithItem before i after → is_named i name ≡ false → Passed all (suc k) after.items name
  go_on (Instance w) is other = one_more (instance_named (placed w)) is (ap (λ (b : Bool). b || false) other)
  go_on (Event e) is other = one_more (event (event_words e)) is refl
  go_on InstanceEnd is other = one_more instance_ends is refl
  go_on End is other =
      let none : drop k all ≡ [] = sym p.left_is ∙ ap (λ (x : Items). x.items) is.0 in
      record {
        left_is = ap (λ (x : Items). x.items) is.1 ∙ sym (drop_past k all none);
        none = ap (λ (x : List Item). among (names_in x) name) (past k (suc k) all none (omega arith)) ∙ p.none;
      }

  pub passed_more : (i : Read) → BeginsWithItem before i after → is_named i name ≡ false → Passed all (k + 1) after.items name
  passed_more i is other = subst (λ (n : ℕ). Passed all n after.items name) (sym (add-one k)) (go_on i is other)

  -- one of this name
  pub passed_found : (i : Read) → BeginsWithItem before i after → is_named i name ≡ true → (count : ℕ) → k < count → true ≡ among (names_in (take count all)) name
  passed_found (Instance w) is same count l =
      sym (found k all (placed w) after.items count name (sym p.left_is ∙ ap (λ (x : Items). x.items) is) l same)
  passed_found (Event e) is same count l = cc
  passed_found InstanceEnd is same count l = cc
  passed_found End is same count l = cc

-- none is left, or enough were read
pub passed_all : (all left : List Item) (k count : ℕ) (name : List ℕ) → Passed all k left name → left ≡ [] → k ≤ count → false ≡ among (names_in (take count all)) name
passed_all all left k count name p is l = sym (ap (λ (x : List Item). among (names_in x) name) (past k count all (sym p.left_is ∙ is) l) ∙ p.none)

pub passed_enough : (all left : List Item) (k count : ℕ) (name : List ℕ) → Passed all k left name → k ≡ count → false ≡ among (names_in (take count all)) name
passed_enough all left k count name p is = sym (ap (λ (n : ℕ). among (names_in (take n all)) name) (sym is) ∙ p.none)
