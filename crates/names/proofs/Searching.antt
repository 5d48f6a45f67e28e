-- What a binary search among entries in order answers.
use Rattle.std.proofs.Common.{◌≡◌, ℕ, ◌<◌, ◌≤◌, true, List, [], map, length, get_or, Ok, Err, Result, refl, sym, ap, ◌∙◌, subst, arith, inl, inr}
use Rattle.std.specs.declared.cmp.Ordering.{Ordering}
use Rattle.std.specs.declared.cmp.Ordering.TheVariants.{Less, Equal, Greater}
use Rattle.std.specs.Ordering.{ordering_index}
use Rattle.std.specs.Cmp.{alike_right}
use Rattle.std.specs.FinMap.{slice_cmp-IsAntisymmetric, nat_cmp-IsAntisymmetric}
use Rattle.std.specs.List.Sorted.{IsSearchInRange, IsBinarySearchResult, IsNonDecreasingBy}
use Rattle.std.proofs.lemmas.Cmp.{nat_list_cmp_total}
use Rattle.std.proofs.lemmas.Bool.{cases_lt}
use Rattle.std.proofs.lemmas.List.{get_or-map, length-map}
use Rattle.std.proofs.lemmas.List.Sorted.{IsNonDecreasingBy-from_default}
use Rattle.names.specs.declared.parts.Entry.{Entry}
use Rattle.names.specs.Entries.{by_bytes, named, in_order, name_at, IsPlaceOf}
use Rattle.names.proofs.Sorted.{rises, turned}

-- an entry without a name
abbrev pub blank : Entry
blank = record { name = record { ref_ptr = (0, 0); now = [] }; number = 0 }

-- there are as many names as entries
pub as_many : (es : List Entry) → length (map named es) ≡ length es
as_many es = length-map es named

-- the name at a place is the entry's there
pub name_there : (es : List Entry) (i : ℕ) → i < length es → name_at (map named es) i ≡ (get_or es i blank).name.now
name_there es i l = ap (λ (e : List ℕ × ℕ). e.0) (get_or-map named es i blank ([], 0) l)

at_most : (o : Ordering) → ordering_index o ≤ 2
at_most Less = omega arith
at_most Equal = omega arith
at_most Greater = omega arith

-- of two names in order, the second is at least as far on, seen from a third
no_lower : (x y name : List ℕ) → by_bytes x y ≡ Less → ordering_index (by_bytes x name) ≤ ordering_index (by_bytes y name)
no_lower x y name e = go (by_bytes y name) refl
  where
    go : (o : Ordering) → by_bytes y name ≡ o → ordering_index (by_bytes x name) ≤ ordering_index o
    go Less is = let z = ap ordering_index (nat_list_cmp_total.trans x y name e is) in omega arith
    go Equal is = let z = ap ordering_index (sym (alike_right nat_list_cmp_total y name x is) ∙ e) in omega arith
    go Greater is = at_most (by_bytes x name)

-- seen from a name, entries in order go on
pub go_on : (es : List Entry) (name : List ℕ) → in_order es ≡ true → IsNonDecreasingBy (λ e. ordering_index (by_bytes e.name.now name)) es
go_on es name h = IsNonDecreasingBy-from_default (λ e. ordering_index (by_bytes e.name.now name)) es blank steps
  where
    steps : (i j : ℕ) → i ≤ j → j < length es → ordering_index (by_bytes (get_or es i blank).name.now name) ≤ ordering_index (by_bytes (get_or es j blank).name.now name)
    steps i j le l = elim (cases_lt i j) [
      | inl lt ↦ no_lower _ _ name (rw (← name_there es i (omega arith), ← name_there es j l) (rises (map named es) h i j lt (let n = as_many es in omega arith)))
      | inr ge ↦ let e : i ≡ j = omega arith in let z = ap (λ (k : ℕ). ordering_index (by_bytes (get_or es k blank).name.now name)) e in omega arith
    ]

-- a binary search answers where the name stands, or where it has to go
pub found : (es : List Entry) (name : List ℕ) (r : Result ℕ ℕ) → in_order es ≡ true → IsSearchInRange r (length es) →
    IsBinarySearchResult (λ e. by_bytes e.name.now name) es r → IsPlaceOf es name r
found es name (Ok i) h within is =
    let n = as_many es in
    record { within = omega arith; is = name_there es i within ∙ slice_cmp-IsAntisymmetric nat_cmp-IsAntisymmetric _ name (is blank) }
found es name (Err i) h within parted =
    let n = as_many es in
    let p = parted (go_on es name h) in
    record {
      within = omega arith;
      before = λ j lt. subst (λ x. by_bytes x name ≡ Less) (sym (name_there es j (omega arith))) (p.0 j blank (omega arith) lt);
      after = λ j le lt. subst (λ x. by_bytes name x ≡ Less) (sym (name_there es j (omega arith))) (turned _ name (p.1 j blank le (omega arith)));
    }
