-- Reading names one by one into a table of zeros.
use Rattle.std.proofs.Common.{◌≡◌, ℕ, zero, suc, ◌+◌, List, [], ◌∷◌, ◌++◌, length, drop, set, replicate, Some, None, Option, sym, refl, ap, subst, ◌∙◌, append_assoc, arith}
use Rattle.std.proofs.lemmas.List.{length_push, set_at}
use Rattle.tabletexts.specs.Table.{number_in}
use Rattle.piletexts.specs.Commands.{name_by, names_in}

-- names before others
abbrev pub names_by : List ℕ → Option (List ℕ) → Option (List ℕ)
names_by xs None = None
names_by xs (Some ns) = Some (xs ++ ns)

-- the table has the names so far and then zeros, and the fields that are left say the rest
pub record Named (names : List ℕ) (given : ℕ) (fs : List (List ℕ)) (says : Option (List ℕ)) : Type 0 where
  pub so_far : List ℕ
  pub room : ℕ
  pub table : names ≡ so_far ++ replicate room 0
  pub count : length so_far ≡ given
  pub full : given + room ≡ 32
  pub same : names_by so_far (names_in room fs) ≡ says

names_more : (xs : List ℕ) (n : ℕ) (o : Option (List ℕ)) → names_by xs (name_by (Some n) o) ≡ names_by (xs ++ n ∷ []) o
names_more xs n None = refl
names_more xs n (Some ns) = ap Some (sym (append_assoc xs (n ∷ []) ns))

nothing_before : (o : Option (List ℕ)) → names_by [] o ≡ o
nothing_before None = refl
nothing_before (Some ns) = refl

pub named_none : (fs : List (List ℕ)) → Named (replicate 32 0) 0 fs (names_in 32 fs)
named_none fs = record { so_far = []; room = 32; table = refl; count = refl; full = refl; same = nothing_before (names_in 32 fs) }

more_at : (room : ℕ) (names : List ℕ) (given : ℕ) (f : List ℕ) (fs : List (List ℕ)) (says : Option (List ℕ)) (xs : List ℕ) (n : ℕ) →
    names ≡ xs ++ replicate room 0 → length xs ≡ given → given + room ≡ 32 → names_by xs (names_in room (f ∷ fs)) ≡ says →
    (given ≡ 32 → ⊥) → Some n ≡ number_in 255 f → Named (set names given n) (given + 1) fs says
more_at zero names given f fs says xs n table count full same less is = absurd (less (omega arith))
more_at (suc room) names given f fs says xs n table count full same less is = record {
  so_far = xs ++ n ∷ [];
  room = room;
  table = ap (λ (l : List ℕ). set l given n) table ∙ set_at xs 0 (replicate room 0) n given count ∙ sym (append_assoc xs (n ∷ []) (replicate room 0));
  count = length_push xs n ∙ ap (λ (k : ℕ). k + 1) count;
  full = omega arith;
  same = sym (names_more xs n (names_in room fs)) ∙ ap (λ (o : Option ℕ). names_by xs (name_by o (names_in room fs))) is ∙ same;
}

-- one name more
named_more : (names : List ℕ) (given : ℕ) (gs : List (List ℕ)) (f : List ℕ) (fs : List (List ℕ)) (says : Option (List ℕ)) (n : ℕ) →
    Named names given gs says → gs ≡ f ∷ fs → (given ≡ 32 → ⊥) → Some n ≡ number_in 255 f → Named (set names given n) (given + 1) fs says
named_more names given gs f fs says n so cut less is =
    more_at so.room names given f fs says so.so_far n so.table so.count so.full
    (ap (λ (l : List (List ℕ)). names_by so.so_far (names_in so.room l)) (sym cut) ∙ so.same) less is

-- the fields are at an end
pub named_end : (names : List ℕ) (given : ℕ) (gs : List (List ℕ)) (says : Option (List ℕ)) → Named names given gs says → gs ≡ [] → Some names ≡ says
named_end names given gs says so none =
    ap Some so.table ∙ sym (ap (λ (l : List (List ℕ)). names_by so.so_far (names_in so.room l)) none) ∙ so.same

module _ (names : List ℕ) (given : ℕ) (gs : List (List ℕ)) (f : List ℕ) (fs : List (List ℕ)) (says : Option (List ℕ)) (so : Named names given gs says) (cut : gs ≡ f ∷ fs) where
  left : names_by so.so_far (names_in so.room (f ∷ fs)) ≡ says
  left = ap (λ (l : List (List ℕ)). names_by so.so_far (names_in so.room l)) (sym cut) ∙ so.same

  -- a field too many
  pub named_full : given ≡ 32 → None ≡ says
  named_full full =
      let none : so.room ≡ 0 = (let f = so.full in omega arith) in
      sym (ap (λ (k : ℕ). names_by so.so_far (names_in k (f ∷ fs))) none) ∙ left

  no_name : (room : ℕ) → None ≡ number_in 255 f → None ≡ names_by so.so_far (names_in room (f ∷ fs))
  no_name zero none = refl
  no_name (suc room) none = ap (λ (o : Option ℕ). names_by so.so_far (name_by o (names_in room fs))) none

  -- a field that is no name
  pub named_stop : None ≡ number_in 255 f → None ≡ says
  named_stop none = no_name so.room none ∙ left

-- the same, where the fields fs are read one by one
pub named_next : (names : List ℕ) (n k j given : ℕ) (fs : List (List ℕ)) (f : List ℕ) (says : Option (List ℕ)) → Named names k (drop k fs) says → given ≡ k → j ≡ k + 1 → drop k fs ≡ f ∷ drop (k + 1) fs → (k ≡ 32 → ⊥) → Some n ≡ number_in 255 f →
    Named (set names given n) j (drop j fs) says
named_next names n k j given fs f says so here more cut less is =
    subst (λ (i : ℕ). Named (set names i n) j (drop j fs) says) (sym here)
    (subst (λ (i : ℕ). Named (set names k n) i (drop i fs) says) (sym more)
    (named_more names k (drop k fs) f (drop (k + 1) fs) says n so cut less is))
