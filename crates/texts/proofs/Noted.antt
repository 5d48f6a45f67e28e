-- One name more.
use Rattle.std.proofs.Common.{◌≡◌, ℕ, suc, ◌+◌, ◌<◌, Bool, true, false, cond, ◌||◌, List, [], ◌∷◌, ◌++◌, length, map, slice_set, replicate, Some, None, Option, refl, sym, ap, ◌∙◌, subst, arith}
use Rattle.std.specs.Option.{is_some, unwrap_or}
use Rattle.std.specs.Str.{bytes_eq}
use Rattle.std.proofs.lemmas.Bool.{both_ways}
use Rattle.std.proofs.lemmas.List.{length-append, length-map, length-replicate, map-append}
use Rattle.std.proofs.lemmas.Slice.Eq.{bytes_eq-Decides}
use Rattle.words.specs.Sentences.{Placed}
use Rattle.sentences.specs.Wants.{among}
use Rattle.names.specs.Numbers.{Numbers, number_of, count, Adds}
use Rattle.names.proofs.Lookups.{number_after}
use Rattle.items.proofs.Passing.{among_push}
use Rattle.texts.specs.declared.rows.Name.{Name}
use Rattle.texts.specs.Rows.{padded, no_name, row_of}
use Rattle.texts.specs.Numbering.{added, place_of}
use Rattle.texts.specs.Noting.{Indexes, Lists, number_among}
use Rattle.texts.proofs.Padding.{padded_by, padded_next}

-- whether names are the same, either way round
same_way : (a b : List ℕ) (x : Bool) → bytes_eq a b ≡ x → bytes_eq b a ≡ x
same_way a b true is = (bytes_eq-Decides b a).1 (sym ((bytes_eq-Decides a b).0 is))
same_way a b false is = go (bytes_eq b a) refl
  where
    go : (y : Bool) → bytes_eq b a ≡ y → bytes_eq b a ≡ false
    go true other = absurd (both_ways (bytes_eq a b) is ((bytes_eq-Decides a b).1 (sym ((bytes_eq-Decides b a).0 other))))
    go false other = other

-- a name that was there stays where it was
pub place_before : (ns : List Placed) (n : Placed) (q : List ℕ) → among ns q ≡ true → place_of (ns ++ (n ∷ [])) q ≡ place_of ns q
place_before [] n q is = cc
place_before (m ∷ ns) n q is = go (bytes_eq m.bytes q) is (place_before ns n q)
  where
    go : (b : Bool) → (b || among ns q) ≡ true → (among ns q ≡ true → place_of (ns ++ (n ∷ [])) q ≡ place_of ns q) → cond b 0 (suc (place_of (ns ++ (n ∷ [])) q)) ≡ cond b 0 (suc (place_of ns q))
    go true is more = refl
    go false is more = ap suc (more is)

-- a new one comes after them
pub place_new : (ns : List Placed) (n : Placed) (q : List ℕ) → among ns q ≡ false → bytes_eq n.bytes q ≡ true → place_of (ns ++ (n ∷ [])) q ≡ length ns
place_new [] n q other is = ap (λ (b : Bool). cond b 0 1) is
place_new (m ∷ ns) n q other is = go (bytes_eq m.bytes q) other (λ o. place_new ns n q o is)
  where
    go : (b : Bool) → (b || among ns q) ≡ false → (among ns q ≡ false → place_of (ns ++ (n ∷ [])) q ≡ length ns) → cond b 0 (suc (place_of (ns ++ (n ∷ [])) q)) ≡ suc (length ns)
    go true other more = cc
    go false other more = ap suc (more other)

module _ (old new : Numbers) (table : List Name) (ns : List Placed) (n : Placed) (number : ℕ) (l : Lists old table ns) (a : Adds old n.bytes number new) (next : number ≡ count old) (room : number < length table) where
  fresh : among ns n.bytes ≡ false
  fresh = go (among ns n.bytes) refl
    where
      go : (b : Bool) → among ns n.bytes ≡ b → among ns n.bytes ≡ false
      go true is = absurd (both_ways (is_some (number_of old n.bytes)) (ap is_some a.fresh) (ap is_some (l.index.known n.bytes ∙ ap (λ (b : Bool). cond b (Some (place_of ns n.bytes)) None) is)))
      go false is = is

  known_more : (q : List ℕ) (same : Bool) → bytes_eq q n.bytes ≡ same → number_of new q ≡ number_among (ns ++ (n ∷ [])) q
  known_more q true same =
      let is : n.bytes ≡ q = sym ((bytes_eq-Decides q n.bytes).0 same) in
      let other : among ns q ≡ false = sym (ap (among ns) is) ∙ fresh in
      let there : bytes_eq n.bytes q ≡ true = same_way q n.bytes true same in
      number_after old n.bytes number new a q
      ∙ ap (λ (b : Bool). cond b (Some number) (number_of old q)) same
      ∙ ap Some (next ∙ l.index.count ∙ sym (place_new ns n q other there))
      ∙ sym (ap (λ (b : Bool). cond b (Some (place_of (ns ++ (n ∷ [])) q)) None) (among_push ns n q ∙ ap (λ (b : Bool). b || bytes_eq n.bytes q) other ∙ there))
  known_more q false same =
      number_after old n.bytes number new a q
      ∙ ap (λ (b : Bool). cond b (Some number) (number_of old q)) same
      ∙ l.index.known q
      ∙ go (among ns q) refl
      ∙ sym (ap (λ (b : Bool). cond b (Some (place_of (ns ++ (n ∷ [])) q)) None) (among_push ns n q ∙ ap (λ (b : Bool). among ns q || b) (same_way q n.bytes false same)))
    where
      go : (b : Bool) → among ns q ≡ b → number_among ns q ≡ cond (among ns q || false) (Some (place_of (ns ++ (n ∷ [])) q)) None
      go true is =
          ap (λ (b : Bool). cond b (Some (place_of ns q)) None) is ∙ ap Some (sym (place_before ns n q is)) ∙ sym (ap (λ (b : Bool). cond (b || false) (Some (place_of (ns ++ (n ∷ [])) q)) None) is)
      go false is = ap (λ (b : Bool). cond b (Some (place_of ns q)) None) is ∙ sym (ap (λ (b : Bool). cond (b || false) (Some (place_of (ns ++ (n ∷ [])) q)) None) is)

  -- the index and the table have the name too
  pub noted_next : Lists new (slice_set table number (row_of n)) (added ns n)
  noted_next =
      subst (Lists new (slice_set table number (row_of n))) (sym (ap (λ (b : Bool). cond b ns (ns ++ (n ∷ []))) fresh))
      (record {
        index = record {
          known = λ q. known_more q (bytes_eq q n.bytes) refl;
          count = let m = a.more in let c = l.index.count in let p = length-append ns (n ∷ []) in omega arith;
        };
        rows = rows_more;
      })
    where
      as_many : number ≡ length (map row_of ns)
      as_many = next ∙ l.index.count ∙ sym (length-map ns row_of)

      rows_more : slice_set table number (row_of n) ≡ padded no_name (length (slice_set table number (row_of n))) (map row_of (ns ++ (n ∷ [])))
      rows_more =
          padded_next no_name table (map row_of ns) number (row_of n) l.rows as_many room
          ∙ ap (padded no_name (length (slice_set table number (row_of n)))) (sym (map-append row_of ns (n ∷ [])))

-- no names
pub lists_none : (numbers : Numbers) (n : ℕ) → ((q : List ℕ) → number_of numbers q ≡ None) → count numbers ≡ 0 → Lists numbers (replicate n no_name) []
lists_none numbers n none empty =
    record {
      index = record { known = none; count = empty };
      rows = sym (padded_by no_name (length (replicate n no_name)) n [] (length-replicate n no_name ∙ let k : n ≡ 0 + n = omega arith in k));
    }

-- no name of them has the number after the last
pub place_after : (ns : List Placed) (q : List ℕ) → among ns q ≡ false → place_of ns q ≡ length ns
place_after [] q is = refl
place_after (m ∷ ns) q is = go (bytes_eq m.bytes q) is (place_after ns q)
  where
    go : (b : Bool) → (b || among ns q) ≡ false → (among ns q ≡ false → place_of ns q ≡ length ns) → cond b 0 (suc (place_of ns q)) ≡ suc (length ns)
    go true is more = cc
    go false is more = ap suc (more is)

-- the number that is found, or that after the last, is the name's place
pub found_place : (numbers : Numbers) (ns : List Placed) (q : List ℕ) → Indexes numbers ns → unwrap_or (number_of numbers q) (count numbers) ≡ place_of ns q
found_place numbers ns q l = ap (λ (o : Option ℕ). unwrap_or o (count numbers)) (l.known q) ∙ go (among ns q) refl
  where
    go : (b : Bool) → among ns q ≡ b → unwrap_or (cond b (Some (place_of ns q)) None) (count numbers) ≡ place_of ns q
    go true is = refl
    go false is = l.count ∙ sym (place_after ns q is)
