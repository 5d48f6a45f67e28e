-- What is seen of entries in order.
use Rattle.std.proofs.Common.{◌≡◌, ℕ, zero, suc, ◌≤◌, Bool, ◌==◌, IsSome, true, false, T, List, [], ◌∷◌, map, length, get_or, Some, None, Ok, Err, Result, refl, sym, ap, ap₂, ◌∙◌, subst, arith}
use Rattle.std.specs.List.{insert}
use Rattle.std.specs.FinMap.{get-from_sorted, len-entries, entries-from_sorted, find, is_sorted, put, same_entries_map, entries-insert}
use Rattle.std.specs.FinMap as finite
use Rattle.std.specs.FinMap.Entries.{is_sorted-put}
use Rattle.std.proofs.lemmas.Bool.Decides.{nat_tests}
use Rattle.std.proofs.lemmas.Float.{T_from_true}
use Rattle.std.proofs.lemmas.Cmp.{nat_list_cmp_total}
use Rattle.std.proofs.lemmas.List.{get_or-map}
use Rattle.names.specs.declared.parts.Entry.{Entry}
use Rattle.names.specs.Numbers.{Numbers, number_of, count, Adds}
use Rattle.names.specs.Entries.{by_bytes, named, in_order, numbers_in, StandsAt, GoesAt, IsPlaceOf}
use Rattle.names.proofs.Sorted.{insert_put, find_none, find_some}
use Rattle.names.proofs.Searching.{blank, as_many}
use Rattle.names.proofs.Lookups.{adds}

is_true : (b : Bool) → T b → b ≡ true
is_true true t = refl
is_true false t = absurd t

map_insert : (es : List Entry) (i : ℕ) (e : Entry) → map named (insert es i e) ≡ insert (map named es) i (named e)
map_insert es zero e = refl
map_insert [] (suc i) e = refl
map_insert (x ∷ es) (suc i) e = ap (λ l. named x ∷ l) (map_insert es i e)

-- no entries are seen as no names
pub none_of_none : (es : List Entry) (name : List ℕ) → es ≡ [] → number_of (numbers_in es) name ≡ None
none_of_none es name e = ap (λ l. number_of (numbers_in l) name) e ∙ get-from_sorted by_bytes [] name tt

pub count_of_none : (es : List Entry) → es ≡ [] → count (numbers_in es) ≡ 0
count_of_none es e = ap (λ l. count (numbers_in l)) e ∙ len-entries (numbers_in []) ∙ ap length (entries-from_sorted by_bytes [] tt)

-- the names that are seen of entries in order
module _ (es : List Entry) (h : in_order es ≡ true) (names : Numbers) (seen : numbers_in es ≡ names) where
  counted : count names ≡ length es
  counted = ap count (sym seen) ∙ len-entries (numbers_in es) ∙ ap length (entries-from_sorted by_bytes (map named es) (T_from_true _ h)) ∙ as_many es

  -- are as many as the entries
  pub as_many_names : (n : ℕ) → n ≡ length es → n ≡ count names
  as_many_names n is = is ∙ sym counted

  pub no_room : true ≡ (length es == 4096) → count names ≡ 4096
  no_room all = grind (arith, nat_tests, counted)

  looked_up : (name : List ℕ) → number_of names name ≡ find by_bytes name (map named es)
  looked_up name = ap (λ (n : Numbers). number_of n name) (sym seen) ∙ get-from_sorted by_bytes (map named es) name (T_from_true _ h)

  module _ (name : List ℕ) (i : ℕ) where
    -- have the number that stands where the name stands
    there : StandsAt (map named es) name i → number_of names name ≡ Some (get_or es i blank).number
    there s =
        looked_up name ∙ find_some (map named es) name i h s
        ∙ ap (λ (e : List ℕ × ℕ). Some e.1) (get_or-map named es i blank ([], 0) (let n = as_many es in let w = s.within in omega arith))

    -- and none for a name that has to go to a place
    none : GoesAt (map named es) name i → number_of names name ≡ None
    none g = looked_up name ∙ find_none (map named es) name i g

  -- `at` are the entries as they are lent, r is what a search for the name answered
  module _ (at : List Entry) (name : List ℕ) (r : Result ℕ ℕ) (i : ℕ) (place : IsPlaceOf at name r) where
    stands : r ≡ Ok i → at ≡ es → StandsAt (map named es) name i
    stands is same = subst (λ l. StandsAt (map named l) name i) same (subst (IsPlaceOf at name) is place)

    goes : r ≡ Err i → at ≡ es → GoesAt (map named es) name i
    goes is same = subst (λ l. GoesAt (map named l) name i) same (subst (IsPlaceOf at name) is place)

    pub number_there : r ≡ Ok i → at ≡ es → Some (get_or at i blank).number ≡ number_of names name
    number_there is same = ap (λ l. Some (get_or l i blank).number) same ∙ sym (there name i (stands is same))

    pub number_none : r ≡ Err i → at ≡ es → None ≡ number_of names name
    number_none is same = sym (none name i (goes is same))

    pub repeated : r ≡ Ok i → at ≡ es → IsSome (number_of names name)
    repeated is same = rw (there name i (stands is same)) refl

    pub not_there : r ≡ Err i → at ≡ es → number_of names name ≡ None
    not_there is same = none name i (goes is same)

    -- an entry with the name is inserted there
    module _ (new : List Entry) (e : Entry) (is : new ≡ insert es i e) (err : r ≡ Err i) (same : at ≡ es) (its : name ≡ e.name.now) where
      is_put : map named new ≡ put by_bytes e.name.now e.number (map named es)
      is_put =
          ap (map named) is ∙ map_insert es i e ∙ insert_put (map named es) e.name.now e.number i (subst (λ n. GoesAt (map named es) n i) its (goes err same))

      pub still_in_order : in_order new ≡ true
      still_in_order = ap (is_sorted by_bytes) is_put ∙ is_true _ (is_sorted-put by_bytes nat_list_cmp_total e.name.now e.number (map named es) (T_from_true _ h))

      is_inserted : numbers_in new ≡ finite.insert names e.name.now e.number
      is_inserted =
          same_entries_map _ _
          (entries-from_sorted by_bytes _ (T_from_true _ still_in_order) ∙ is_put ∙ ap (put by_bytes e.name.now e.number) (sym (entries-from_sorted by_bytes _ (T_from_true _ h)))
          ∙ sym (entries-insert nat_list_cmp_total (numbers_in es) e.name.now e.number))
          ∙ ap (λ (n : Numbers). finite.insert n e.name.now e.number) seen

      pub added : false ≡ (length es == 4096) → length es ≤ 4096 → (number : ℕ) → number ≡ e.number → Adds names name number (numbers_in new)
      added room most number is_number =
          let inserted : numbers_in new ≡ finite.insert names name number = is_inserted ∙ ap₂ (finite.insert names) (sym its) (sym is_number) in
          subst (Adds names name number) (sym inserted) (adds names name number (none name i (goes err same)) (grind (arith, nat_tests, counted)))
