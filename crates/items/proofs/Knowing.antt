-- What an index knows after a name was noted.
use Rattle.std.proofs.Common.{◌≡◌, ℕ, ◌<◌, Bool, true, false, cond, ◌||◌, List, [], ◌∷◌, ◌++◌, Some, None, refl, sym, ap, ◌∙◌, subst, arith}
use Rattle.std.specs.Option.{is_some}
use Rattle.std.specs.Str.{bytes_eq}
use Rattle.std.proofs.lemmas.Bool.{both_ways}
use Rattle.std.proofs.lemmas.Slice.Eq.{bytes_eq-Decides}
use Rattle.names.specs.Numbers.{Numbers, number_of, count, Adds}
use Rattle.names.proofs.Lookups.{number_after}
use Rattle.words.specs.Sentences.{Placed}
use Rattle.sentences.specs.Wants.{among}
use Rattle.items.specs.Known.{Knows}
use Rattle.items.proofs.Passing.{among_push}

pub knows_none : (numbers : Numbers) → ((q : List ℕ) → number_of numbers q ≡ None) → Knows numbers []
knows_none numbers none = record { only = λ q some. absurd (both_ways (is_some (number_of numbers q)) (ap is_some (none q)) some); all = λ _ q has. cc }

eq_sym : (a b : List ℕ) → bytes_eq a b ≡ true → bytes_eq b a ≡ true
eq_sym a b is = (bytes_eq-Decides b a).1 (sym ((bytes_eq-Decides a b).0 is))

or_left : (a b : Bool) → a ≡ true → (a || b) ≡ true
or_left true b x = refl
or_left false b x = cc

or_right : (a b : Bool) → b ≡ true → (a || b) ≡ true
or_right true b x = refl
or_right false b x = x

or_either : (a b : Bool) → (a || b) ≡ true → b ≡ false → a ≡ true
or_either true b x y = refl
or_either false true x y = cc
or_either false false x y = x

false_or_true : (b : Bool) → (b ≡ true → ⊥) → b ≡ false
false_or_true true n = absurd (n refl)
false_or_true false n = refl

module _ (old new : Numbers) (ns : List Placed) (name : List ℕ) (number : ℕ) (k : Knows old ns) where
  -- an accepted name was not known, and is known then
  pub noted_new : Adds old name number new → among ns name ≡ false
  noted_new a = false_or_true (among ns name) (λ has. both_ways (is_some (number_of old name)) (ap is_some a.fresh) (k.all a.room name has))

  pub noted_knows : Adds old name number new → (p : Placed) → p.bytes ≡ name → Knows new (ns ++ (p ∷ []))
  noted_knows a p is =
      record {
        only = λ q some. among_push ns p q ∙ only_by q (bytes_eq q name) refl (sym (ap is_some (number_after old name number new a q)) ∙ some);
        all = λ few q has. ap is_some (number_after old name number new a q) ∙ all_by q (bytes_eq q name) refl (let m = a.more in omega arith) (sym (among_push ns p q) ∙ has);
      }
    where
      only_by : (q : List ℕ) (b : Bool) → bytes_eq q name ≡ b → is_some (cond b (Some number) (number_of old q)) ≡ true → (among ns q || bytes_eq p.bytes q) ≡ true
      only_by q true same some = or_right (among ns q) (bytes_eq p.bytes q) (ap (λ x. bytes_eq x q) is ∙ eq_sym q name same)
      only_by q false other some = or_left (among ns q) (bytes_eq p.bytes q) (k.only q some)

      all_by : (q : List ℕ) (b : Bool) → bytes_eq q name ≡ b → count old < 4096 → (among ns q || bytes_eq p.bytes q) ≡ true → is_some (cond b (Some number) (number_of old q)) ≡ true
      all_by q true same few has = refl
      all_by q false other few has =
          k.all few q (or_either (among ns q) (bytes_eq p.bytes q) has (false_or_true (bytes_eq p.bytes q) (λ same. both_ways (bytes_eq q name) other (eq_sym name q (ap (λ x. bytes_eq x q) (sym is) ∙ same)))))

  -- a full index knows no more
  pub full_knows : count old ≡ 4096 → new ≡ old → (p : Placed) → Knows new (ns ++ (p ∷ []))
  full_knows full same p =
      subst (λ (z : Numbers). Knows z (ns ++ (p ∷ []))) (sym same)
      (record {
        only = λ q some. among_push ns p q ∙ or_left (among ns q) (bytes_eq p.bytes q) (k.only q some);
        all = λ few. absurd (omega arith);
      })
