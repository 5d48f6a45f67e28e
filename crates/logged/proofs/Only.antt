-- A log has one run of entries that are taken.
use Rattle.std.proofs.Common.{◌≡◌, ℕ, List, [], ◌∷◌, ◌++◌, refl, sym, ap₂, ◌∙◌, subst}
use Rattle.charts.specs.declared.parts.Event.{Event}
use Rattle.media.specs.Carry.{Carry}
use Rattle.records.specs.declared.parts.Entry.{Entry}
use Rattle.logs.specs.Heads.{head_of}
use Rattle.logs.specs.Entries.{Taken}
use Rattle.logs.proofs.Split.{one_head, one_entry}
use Rattle.logged.specs.Taken.{TakenFrom, more, over, TakenOf, headed, headless}

module _ (M : Carry) (L : List (List Event)) where
  same_from : (h bytes : List ℕ) (xs : List Entry) → TakenFrom M L h bytes xs → (g others : List ℕ) (ys : List Entry) → g ≡ h → others ≡ bytes → TakenFrom M L g others ys → xs ≡ ys
  same_from _ _ _ (over h bytes none) _ _ _ e f (over g others either) = refl
  same_from _ _ _ (over h bytes none) _ _ _ e f (more g others y left ys d t k) = absurd (none y (left, sym f ∙ d) (subst (λ (u : List ℕ). Taken M L u y) e t))
  same_from _ _ _ (more h bytes x rest xs is t k) _ _ _ e f (over g others none) = absurd (none x (rest, f ∙ is) (subst (λ (u : List ℕ). Taken M L u x) (sym e) t))
  same_from _ _ _ (more h bytes x rest xs is t k) _ _ _ e f (more g others y left ys d s m) =
      let o = one_entry x y rest left (sym is ∙ sym f ∙ d) in
      ap₂ (λ (z : Entry) (zs : List Entry). z ∷ zs) o.same
      (same_from (h ++ (x.instance ∷ [])) rest xs k (g ++ (y.instance ∷ [])) left ys (ap₂ (λ (u : List ℕ) (z : Entry). u ++ (z.instance ∷ [])) e (sym o.same)) (sym o.rest) m)

  pub one_taken : (bytes : List ℕ) (xs ys : List Entry) → TakenOf M L bytes xs → TakenOf M L bytes ys → xs ≡ ys
  one_taken bytes _ _ (headed rest xs is k) (headed left ys d m) = same_from [] rest xs k [] left ys refl (sym (one_head (head_of L) (head_of L) rest left (sym is ∙ d)).rest) m
  one_taken bytes _ _ (headed rest xs is k) (headless none) = absurd (none (rest, is))
  one_taken bytes _ _ (headless none) (headed left ys d m) = absurd (none (left, d))
  one_taken bytes _ _ (headless none) (headless either) = refl
