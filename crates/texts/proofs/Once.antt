-- Names in their places, and by their bytes alone.
use Rattle.std.proofs.Common.{◌≡◌, ℕ, zero, suc, ◌<◌, Bool, true, false, cond, ◌||◌, List, [], ◌∷◌, ◌++◌, length, fold, get_or, slice_get, Contains, Some, None, inl, inr, refl, sym, ap, ◌∙◌, arith}
use Rattle.std.specs.Str.{bytes_eq}
use Rattle.std.proofs.lemmas.Bool.{or_parts, or_cases, cases_Bool, both_ways}
use Rattle.std.proofs.lemmas.List.{map-append}
use Rattle.std.proofs.lemmas.Slice.Eq.{bytes_eq-Decides}
use Rattle.words.specs.Sentences.{Placed}
use Rattle.sentences.specs.Wants.{among}
use Rattle.items.specs.Surveys.{first_repeated}
use Rattle.items.proofs.Passing.{among_push}
use Rattle.grammar.proofs.Lists.{bytes_of}
use Rattle.texts.specs.Numbering.{added, distinct, place_of}
use Rattle.texts.specs.Names.{has, with_name, once, place_in}

pub has_same : (ns : List Placed) (q : List ℕ) → has (bytes_of ns) q ≡ among ns q
has_same [] q = refl
has_same (n ∷ ns) q = ap (λ (b : Bool). bytes_eq n.bytes q || b) (has_same ns q)

pub place_same : (ns : List Placed) (q : List ℕ) → place_in (bytes_of ns) q ≡ place_of ns q
place_same [] q = refl
place_same (n ∷ ns) q = ap (λ (k : ℕ). cond (bytes_eq n.bytes q) 0 (suc k)) (place_same ns q)

added_same : (ns : List Placed) (n : Placed) → with_name (bytes_of ns) n.bytes ≡ bytes_of (added ns n)
added_same ns n = ap (λ (b : Bool). cond b (bytes_of ns) (bytes_of ns ++ (n.bytes ∷ []))) (has_same ns n.bytes) ∙ go (among ns n.bytes)
  where
    go : (b : Bool) → cond b (bytes_of ns) (bytes_of ns ++ (n.bytes ∷ [])) ≡ bytes_of (cond b ns (ns ++ (n ∷ [])))
    go true = refl
    go false = sym (map-append (λ (w : Placed). w.bytes) ns (n ∷ []))

all_same : (s ns : List Placed) → fold with_name (bytes_of s) (bytes_of ns) ≡ bytes_of (fold added s ns)
all_same s [] = refl
all_same s (n ∷ ns) = ap (λ (ms : List (List ℕ)). fold with_name ms (bytes_of ns)) (added_same s n) ∙ all_same (added s n) ns

-- each name once, by its bytes
pub once_same : (ns : List Placed) → once (bytes_of ns) ≡ bytes_of (distinct ns)
once_same ns = all_same [] ns

-- a name that is among others, and its place
pub among_there : (ns : List Placed) (q : List ℕ) → among ns q ≡ true → Contains (bytes_of ns) q
among_there [] q is = cc
among_there (n ∷ ns) q is =
    elim (or_cases (bytes_eq n.bytes q) (among ns q) is) [
      | inl here ↦ (0, omega arith, (bytes_eq-Decides n.bytes q).0 here)
      | inr there ↦ let r = among_there ns q there in let l = r.1 in (suc r.0, omega arith, r.2)
    ]

pub there_among : (ns : List Placed) (q : List ℕ) → Contains (bytes_of ns) q → among ns q ≡ true
there_among ns q c = go ns c.0 c.1 c.2
  where
    go : (ns : List Placed) (k : ℕ) → k < length (bytes_of ns) → get_or (bytes_of ns) k q ≡ q → among ns q ≡ true
    go [] k l is = absurd (omega arith)
    go (n ∷ ns) zero l is = ap (λ (b : Bool). b || among ns q) ((bytes_eq-Decides n.bytes q).1 is)
    go (n ∷ ns) (suc k) l is =
        let more = go ns k (omega arith) is in
        elim (cases_Bool (bytes_eq n.bytes q)) [ inl same ↦ ap (λ (b : Bool). b || among ns q) same | inr other ↦ ap (λ (b : Bool). b || among ns q) other ∙ more ]

-- the first name of these is new, and the others are not repeated
first_new : (seen : List Placed) (n : Placed) (ns : List Placed) → first_repeated seen (n ∷ ns) ≡ None → (among seen n.bytes ≡ false) × (first_repeated (seen ++ (n ∷ [])) ns ≡ None)
first_new seen n ns h = go (among seen n.bytes) refl h
  where
    go : (b : Bool) → among seen n.bytes ≡ b → cond b (Some n) (first_repeated (seen ++ (n ∷ [])) ns) ≡ None → (among seen n.bytes ≡ false) × (first_repeated (seen ++ (n ∷ [])) ns ≡ None)
    go true is h = cc
    go false is h = (is, h)

apart : (seen ns : List Placed) → first_repeated seen ns ≡ None → (i : ℕ) (q : List ℕ) → slice_get (bytes_of ns) i ≡ Some q → among seen q ≡ false
apart seen [] new i q at = cc
apart seen (n ∷ ns) new zero q at = let f = first_new seen n ns new in let is : n.bytes ≡ q = cc in sym (ap (among seen) is) ∙ f.0
apart seen (n ∷ ns) new (suc i) q at =
    let f = first_new seen n ns new in
    (or_parts (among seen q) (bytes_eq n.bytes q) (sym (among_push seen n q) ∙ apart (seen ++ (n ∷ [])) ns f.1 i q at)).0

other_name : (seen : List Placed) (n : Placed) (ns : List Placed) → first_repeated (seen ++ (n ∷ [])) ns ≡ None → (j : ℕ) → slice_get (bytes_of ns) j ≡ Some n.bytes → ⊥
other_name seen n ns new j at =
    let a = (or_parts (among seen n.bytes) (bytes_eq n.bytes n.bytes) (sym (among_push seen n n.bytes) ∙ apart (seen ++ (n ∷ [])) ns new j n.bytes at)).1 in
    both_ways (bytes_eq n.bytes n.bytes) a ((bytes_eq-Decides n.bytes n.bytes).1 refl)

-- names that are not repeated stand in one place each
pub one_place : (seen ns : List Placed) → first_repeated seen ns ≡ None → (i j : ℕ) (q : List ℕ) → slice_get (bytes_of ns) i ≡ Some q → slice_get (bytes_of ns) j ≡ Some q → i ≡ j
one_place seen [] new i j q a b = cc
one_place seen (n ∷ ns) new zero zero q a b = refl
one_place seen (n ∷ ns) new zero (suc j) q a b = absurd (other_name seen n ns (first_new seen n ns new).1 j (b ∙ sym a))
one_place seen (n ∷ ns) new (suc i) zero q a b = absurd (other_name seen n ns (first_new seen n ns new).1 i (a ∙ sym b))
one_place seen (n ∷ ns) new (suc i) (suc j) q a b = ap suc (one_place (seen ++ (n ∷ [])) ns (first_new seen n ns new).1 i j q a b)

-- and the other way round
pub not_repeated : (seen ns : List Placed) → ((i : ℕ) (q : List ℕ) → slice_get (bytes_of ns) i ≡ Some q → among seen q ≡ false) →
    ((i j : ℕ) (q : List ℕ) → slice_get (bytes_of ns) i ≡ Some q → slice_get (bytes_of ns) j ≡ Some q → i ≡ j) → first_repeated seen ns ≡ None
not_repeated seen [] new one = refl
not_repeated seen (n ∷ ns) new one =
    ap (λ (b : Bool). cond b (Some n) (first_repeated (seen ++ (n ∷ [])) ns)) (new zero n.bytes refl)
    ∙ not_repeated (seen ++ (n ∷ [])) ns
    (λ i q at. among_push seen n q ∙ ap (λ (b : Bool). b || bytes_eq n.bytes q) (new (suc i) q at) ∙ other i q at (bytes_eq n.bytes q) refl)
    (λ i j q a b. let e = one (suc i) (suc j) q a b in omega arith)
  where
    other : (i : ℕ) (q : List ℕ) → slice_get (bytes_of ns) i ≡ Some q → (b : Bool) → bytes_eq n.bytes q ≡ b → bytes_eq n.bytes q ≡ false
    other i q at false is = is
    other i q at true is = absurd (let e = one zero (suc i) q (ap Some ((bytes_eq-Decides n.bytes q).0 is)) at in omega arith)
