-- Charts put on a stack and taken off.
use Rattle.std.proofs.Common.{◌≡◌, ℕ, ◌+◌, ◌-◌, List, [], ◌∷◌, ◌++◌, map, reverse, length, get_or, take, option_to_list, MatchOption, Some, None, Ok, Option, Result, Vec, Global, vec_len, sym, refl, ap, ◌∙◌, subst, arith, Bor}
use Rattle.std.proofs.lemmas.List.{map_push, nil_from_length, reverse-append, take_all, take_more}
use Rattle.std.specs.Slice.{IsGetResult}
use Rattle.std.specs.Option.{ok_or}
use Rattle.charts.specs.declared.parts.Event.{Event}
use Rattle.charts.specs.declared.faults.Fault.{Fault}
use Rattle.flats.specs.declared.flat.Flat.{Flat}
use Rattle.tabletexts.specs.Outcome.{Answers}
use Rattle.tabletexts.specs.declared.parts.Unread.{Unread}
use Rattle.tabletexts.specs.declared.parts.Unread.TheVariants.{Line}
use Rattle.piles.specs.Meanings.{Meaning, meaning, flat_meaning}
use Rattle.piles.specs.Stack.{Popped, join_two, shown, stack_of, top_of, turn_one}

pub stack_push : (cs : List Flat) (chart : Flat) → stack_of (cs ++ chart ∷ []) ≡ flat_meaning chart ∷ stack_of cs
stack_push cs chart = ap reverse (map_push flat_meaning cs chart) ∙ reverse-append (map flat_meaning cs) (flat_meaning chart ∷ [])

-- a copy of a chart with this fault and these lists is put on
pub stack_copied : (cs ds : List Flat) (chart : Flat) (f : Option Fault) (L : List (List Event)) →
    (flat_meaning chart).trouble ≡ f → (flat_meaning chart).lists ≡ L → ds ≡ cs ++ chart ∷ [] → meaning f L ∷ stack_of cs ≡ stack_of ds
stack_copied cs ds chart f L a b is =
    sym (ap stack_of is ∙ stack_push cs chart ∙ (λ t. meaning (a t) (b t) ∷ stack_of cs))

-- the last of the charts is taken off, or there is none
pub popped : (v w : Vec Flat Global) (r : Option Flat) (n : ℕ) → v.items ≡ w.items ++ option_to_list r → MatchOption r ((vec_len v ≡ 0) × (vec_len w ≡ 0)) (λ _. vec_len w + 1 ≡ vec_len v) →
    Popped n (stack_of v.items) (ok_or r (Line n)) (stack_of w.items)
popped v w None n items cases =
    (ap stack_of (nil_from_length v.items (let empty = cases.0 in omega (arith, v.ok.0))), (ap stack_of (nil_from_length w.items (let empty = cases.1 in omega (arith, w.ok.0))), refl))
popped v w (Some chart) n items cases = ap stack_of items ∙ stack_push w.items chart

module _ {V : Type 0} (S : List Meaning) (line : ℕ) (T : List Meaning) (r : Result V Unread) where
  pub two_joined : (f : Meaning → Meaning → Meaning) (S₁ S₂ : List Meaning) (a b : Meaning) → S ≡ b ∷ S₁ → S₁ ≡ a ∷ S₂ →
      Answers (λ _. T) (Ok (f a b ∷ S₂)) r → Answers (λ _. T) (ok_or (join_two f S) line) r
  two_joined f S₁ S₂ a b one two said =
      subst (λ (s : List Meaning). Answers (λ _. T) (ok_or (join_two f s) line) r) (sym (one ∙ ap (λ (s : List Meaning). b ∷ s) two)) said

  pub one_turned : (f : Meaning → Meaning) (S₁ : List Meaning) (a : Meaning) → S ≡ a ∷ S₁ →
      Answers (λ _. T) (Ok (f a ∷ S₁)) r → Answers (λ _. T) (ok_or (turn_one f S) line) r
  one_turned f S₁ a one said = subst (λ (s : List Meaning). Answers (λ _. T) (ok_or (turn_one f s) line) r) (sym one) said

-- the last of the charts is the top
pub top_shown : (cs : List Flat) (r : Option (Bor Flat)) → IsGetResult cs 0 (length cs - 1) r → top_of (stack_of cs) ≡ shown r
top_shown cs None h = ap (λ (xs : List Flat). top_of (stack_of xs)) (nil_from_length cs (let l = h.3 in omega arith))
top_shown cs (Some x) h =
    let l = h.3.0 in
    let n : length cs - 1 + 1 ≡ length cs = omega arith in
    let whole = sym (take_all (length cs - 1 + 1) cs (omega arith)) ∙ take_more cs (length cs - 1) x.now (omega arith) in
    ap (λ (xs : List Flat). top_of (stack_of xs)) whole
    ∙ ap top_of (stack_push (take (length cs - 1) cs) (get_or cs (length cs - 1) x.now))
    ∙ ap (λ (y : Flat). Some (flat_meaning y)) (sym h.1)
