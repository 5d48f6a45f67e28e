-- Lists of names that rise.
use Rattle.std.proofs.Common.{◌≡◌, ℕ, zero, suc, ◌<◌, true, false, cond, List, [], ◌∷◌, length, get_or, Some, None, refl, sym, ap, ◌∙◌, subst, arith}
use Rattle.std.specs.declared.cmp.Ordering.{Ordering}
use Rattle.std.specs.declared.cmp.Ordering.TheVariants.{Less, Equal, Greater}
use Rattle.std.specs.Ordering.{is_lt, is_eq, ordering_reverse}
use Rattle.std.specs.Cmp.{first_so, second_so, tied_itself}
use Rattle.std.proofs.lemmas.Bool.{both_ways}
use Rattle.std.proofs.lemmas.Cmp.{nat_list_cmp_total}
use Rattle.std.specs.List.{insert}
use Rattle.std.specs.FinMap.{find, put, is_sorted}
use Rattle.std.specs.FinMap.Entries.{below_all, by_order}
use Rattle.names.specs.Entries.{by_bytes, name_at, StandsAt, GoesAt}

abbrev Named : Type 0
Named = List (List ℕ × ℕ)

is_less : (o : Ordering) → is_lt o ≡ true → o ≡ Less
is_less Less e = refl
is_less Equal e = absurd (both_ways false refl e)
is_less Greater e = absurd (both_ways false refl e)

-- two names the other way round
pub turned : (x y : List ℕ) {o : Ordering} → by_bytes x y ≡ o → by_bytes y x ≡ ordering_reverse o
turned x y e = nat_list_cmp_total.antisymm y x ∙ ap ordering_reverse e

-- a name that comes before each
below_each : (x : List ℕ) (es : Named) → below_all by_bytes x es ≡ true → (j : ℕ) → j < length es → by_bytes x (name_at es j) ≡ Less
below_each x [] h j l = absurd (omega arith)
below_each x (e ∷ es) h zero l = is_less _ (first_so (is_lt (by_bytes x e.0)) _ h)
below_each x (e ∷ es) h (suc j) l = below_each x es (second_so (is_lt (by_bytes x e.0)) _ h) j (omega arith)

-- of two places in order, the name at the first comes before the name at the second
pub rises : (es : Named) → is_sorted by_bytes es ≡ true → (i j : ℕ) → i < j → j < length es → by_bytes (name_at es i) (name_at es j) ≡ Less
rises [] h i j lt l = absurd (omega arith)
rises (e ∷ es) h i zero lt l = absurd (omega arith)
rises (e ∷ es) h zero (suc j) lt l = below_each e.0 es (first_so (below_all by_bytes e.0 es) _ h) j (omega arith)
rises (e ∷ es) h (suc i) (suc j) lt l = rises es (second_so (below_all by_bytes e.0 es) _ h) i j (omega arith) (omega arith)

-- after the first entry, a name has to go one place lower
goes_on : (e : List ℕ × ℕ) (es : Named) (name : List ℕ) (i : ℕ) → GoesAt (e ∷ es) name (suc i) → GoesAt es name i
goes_on e es name i g =
    record { within = let w = g.within in omega arith; before = λ j lt. g.before (suc j) (omega arith); after = λ j le lt. g.after (suc j) (omega arith) (omega arith) }

goes_first : (e : List ℕ × ℕ) (es : Named) (name : List ℕ) → GoesAt (e ∷ es) name 0 → GoesAt es name 0
goes_first e es name g =
    record { within = omega arith; before = λ j lt. absurd (omega arith); after = λ j le lt. g.after (suc j) (omega arith) (omega arith) }

-- to insert a name where it has to go is to put it in order
pub insert_put : (es : Named) (name : List ℕ) (number i : ℕ) → GoesAt es name i → insert es i (name, number) ≡ put by_bytes name number es
insert_put [] name number zero g = refl
insert_put [] name number (suc i) g = absurd (let w = g.within in omega arith)
insert_put (e ∷ es) name number zero g = ap (λ o. by_order o ((name, number) ∷ e ∷ es) ((e.0, number) ∷ es) (e ∷ put by_bytes name number es)) (sym (g.after 0 (omega arith) (omega arith)))
insert_put (e ∷ es) name number (suc i) g =
    ap (λ l. e ∷ l) (insert_put es name number i (goes_on e es name i g))
    ∙ ap (λ o. by_order o ((name, number) ∷ e ∷ es) ((e.0, number) ∷ es) (e ∷ put by_bytes name number es)) (sym (turned e.0 name (g.before 0 (omega arith))))

-- a name that has to go to a place is not among them
pub find_none : (es : Named) (name : List ℕ) (i : ℕ) → GoesAt es name i → find by_bytes name es ≡ None
find_none [] name i g = refl
find_none (e ∷ es) name zero g =
    ap (λ o. cond (is_eq o) (Some e.1) (find by_bytes name es)) (g.after 0 (omega arith) (omega arith)) ∙ find_none es name 0 (goes_first e es name g)
find_none (e ∷ es) name (suc i) g =
    ap (λ o. cond (is_eq o) (Some e.1) (find by_bytes name es)) (turned e.0 name (g.before 0 (omega arith))) ∙ find_none es name i (goes_on e es name i g)

-- a name that stands at a place has the number there
pub find_some : (es : Named) (name : List ℕ) (i : ℕ) → is_sorted by_bytes es ≡ true → StandsAt es name i → find by_bytes name es ≡ Some (get_or es i ([], 0)).1
find_some [] name i h s = absurd (let w = s.within in omega arith)
find_some (e ∷ es) name zero h s =
    ap (λ o. cond (is_eq o) (Some e.1) (find by_bytes name es)) (subst (λ x. by_bytes name x ≡ Equal) (sym s.is) (tied_itself nat_list_cmp_total name))
find_some (e ∷ es) name (suc i) h s =
    let w = s.within in
    let first : by_bytes e.0 name ≡ Less = subst (λ x. by_bytes e.0 x ≡ Less) s.is (rises (e ∷ es) h 0 (suc i) (omega arith) w) in
    ap (λ o. cond (is_eq o) (Some e.1) (find by_bytes name es)) (turned e.0 name first)
    ∙ find_some es name i (second_so (below_all by_bytes e.0 es) _ h) (record { within = omega arith; is = s.is })
