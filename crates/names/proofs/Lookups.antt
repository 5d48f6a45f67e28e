-- The numbers of names after one more is noted.
use Rattle.std.proofs.Common.{◌≡◌, ℕ, ◌+◌, ◌<◌, Bool, true, false, cond, List, Some, None, is_some, refl, ap, ◌∙◌}
use Rattle.std.specs.Str.{bytes_eq}
use Rattle.std.specs.FinMap.{get-insert, len-insert}
use Rattle.std.specs.FinMap as finite
use Rattle.std.specs.Cmp.{tied_itself}
use Rattle.std.specs.Ordering.{is_eq}
use Rattle.std.proofs.lemmas.Bool.{both_ways, cond-false, false_from_ne_true}
use Rattle.std.proofs.lemmas.Cmp.{nat_list_cmp_total}
use Rattle.std.proofs.lemmas.Map.Text.{is_eq-slice_cmp}
use Rattle.std.proofs.lemmas.Slice.Eq.{bytes_eq-Decides}
use Rattle.names.specs.Numbers.{Numbers, number_of, count, Adds}

-- an insert adds a name that is not there
pub adds : (old : Numbers) (name : List ℕ) (number : ℕ) → number_of old name ≡ None → count old < 4096 → Adds old name number (finite.insert old name number)
adds old name number none some =
    record {
      fresh = none;
      room = some;
      this = get-insert nat_list_cmp_total old name number name ∙ ap (λ o. cond (is_eq o) (Some number) (number_of old name)) (tied_itself nat_list_cmp_total name);
      others = λ other ne.
          get-insert nat_list_cmp_total old name number other
          ∙ cond-false _ _ _ (is_eq-slice_cmp other name ∙ false_from_ne_true _ (λ same. ne ((bytes_eq-Decides other name).0 same)));
      more = len-insert nat_list_cmp_total old name number ∙ ap (λ o. cond (is_some o) (count old) (count old + 1)) none;
    }

-- every name at once, by the test of whether it is the new one
pub number_after : (old : Numbers) (name : List ℕ) (number : ℕ) (new : Numbers) → Adds old name number new →
    (q : List ℕ) → number_of new q ≡ cond (bytes_eq q name) (Some number) (number_of old q)
number_after old name number new a q = go (bytes_eq q name) refl
  where
    go : (b : Bool) → bytes_eq q name ≡ b → number_of new q ≡ cond b (Some number) (number_of old q)
    go true is = ap (number_of new) ((bytes_eq-Decides q name).0 is) ∙ a.this
    go false is = a.others q (λ same. both_ways _ is ((bytes_eq-Decides q name).1 same))
