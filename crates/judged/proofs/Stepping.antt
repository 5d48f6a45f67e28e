-- The lines of one step more.
use Rattle.std.proofs.Common.{◌≡◌, ℕ, ◌+◌, ◌<◌, ◌≤◌, List, [], ◌∷◌, ◌++◌, length, take, get_or, slice_set, replicate, Bool, true, false, cond, ◌==◌, sym, ap, subst, ◌∙◌, inl, inr, arith}
use Rattle.std.proofs.lemmas.Bool.{cases_eq}
use Rattle.std.proofs.lemmas.List.{append-nil, append_assoc, take_more, length-set, length-take-le, length-replicate, get_or-replicate, get_or-set_same, get_or-set_other}
use Rattle.orders.specs.Histories.{pos}
use Rattle.orders.proofs.Positions.{pos_step, pos_stay}
use Rattle.lines.specs.declared.listing.Listing.{Listing}
use Rattle.lines.specs.Lines.{event_line}
use Rattle.judged.specs.Shown.{step_lines}

module _ (l : Listing) where
  pub step_more : (h w : List ℕ) (i : ℕ) → step_lines l h (w ++ (i ∷ [])) ≡ step_lines l h w ++ event_line l (length (h ++ w) + 1) i (pos (h ++ w) i)
  step_more h [] i =
      append-nil (event_line l (length h + 1) i (pos h i)) ∙ ap (λ (g : List ℕ). event_line l (length g + 1) i (pos g i)) (sym (append-nil h))
  step_more h (x ∷ w) i =
      ap (λ (bs : List ℕ). event_line l (length h + 1) x (pos h x) ++ bs)
      (step_more (h ++ (x ∷ [])) w i ∙ ap (λ (g : List ℕ). step_lines l (h ++ (x ∷ [])) w ++ event_line l (length g + 1) i (pos g i)) (append_assoc h (x ∷ []) w))
      ∙ sym (append_assoc (event_line l (length h + 1) x (pos h x)) (step_lines l (h ++ (x ∷ [])) w) _)

  pub lines_more : (order : List ℕ) (k : ℕ) → k < length order →
      step_lines l [] (take (k + 1) order) ≡ step_lines l [] (take k order) ++ event_line l (k + 1) (get_or order k 0) (pos (take k order) (get_or order k 0))
  lines_more order k short =
      let long = length-take-le k order (omega arith) in
      ap (step_lines l []) (take_more order k 0 short) ∙ step_more [] (take k order) (get_or order k 0)
      ∙ ap (λ (n : ℕ). step_lines l [] (take k order) ++ event_line l (n + 1) (get_or order k 0) (pos (take k order) (get_or order k 0))) long

  pub lines_at : (order bs cs ds : List ℕ) (k i p : ℕ) → k < length order → i ≡ get_or order k 0 → p ≡ pos (take k order) i → cs ≡ bs ++ step_lines l [] (take k order) → ds ≡ cs ++ event_line l (k + 1) i p →
      ds ≡ bs ++ step_lines l [] (take (k + 1) order)
  lines_at order bs cs ds k i p short is counts before after =
      after ∙ ap (λ (n : ℕ). cs ++ event_line l (k + 1) i n) (counts ∙ ap (pos (take k order)) is) ∙ ap (λ (j : ℕ). cs ++ event_line l (k + 1) j (pos (take k order) (get_or order k 0))) is
      ∙ ap (λ (xs : List ℕ). xs ++ event_line l (k + 1) (get_or order k 0) (pos (take k order) (get_or order k 0))) before
      ∙ append_assoc bs (step_lines l [] (take k order)) _ ∙ ap (λ (xs : List ℕ). bs ++ xs) (sym (lines_more order k short))

-- how often each number below 256 is listed
pub record Counted (w ps : List ℕ) : Type 0 where
  pub long : length ps ≡ 256
  pub counts : (i : ℕ) → i < 256 → get_or ps i 0 ≡ pos w i

pub counted_none : Counted [] (replicate 256 0)
counted_none = record { long = length-replicate {A = ℕ} 256 0; counts = λ i l. get_or-replicate {A = ℕ} 256 i 0 0 l }

counted_push : (w ps : List ℕ) (i : ℕ) → i < 256 → Counted w ps → Counted (w ++ (i ∷ [])) (slice_set ps i (get_or ps i 0 + 1))
counted_push w ps i l h =
    record {
      long = length-set ps i (get_or ps i 0 + 1) ∙ h.long;
      counts = λ j m. elim (cases_eq j i) [
        | inl same ↦ by_same j same
        | inr other ↦ get_or-set_other ps i j (get_or ps i 0 + 1) 0 other ∙ h.counts j m ∙ sym (pos_stay w i j (λ e. other (sym e)))
      ];
    }
  where
    by_same : (j : ℕ) → j ≡ i → get_or (slice_set ps i (get_or ps i 0 + 1)) j 0 ≡ pos (w ++ (i ∷ [])) j
    by_same j same =
        let long = h.long in
        let a = get_or-set_same ps i (get_or ps i 0 + 1) 0 (omega arith) in
        let b = h.counts i l in
        let c = pos_step w i in
        ap (λ (k : ℕ). get_or (slice_set ps i (get_or ps i 0 + 1)) k 0) same ∙ (let d : get_or (slice_set ps i (get_or ps i 0 + 1)) i 0 ≡ pos (w ++ (i ∷ [])) i = omega arith in d) ∙ ap (pos (w ++ (i ∷ []))) (sym same)

pub counted_at : (order ps : List ℕ) (k i : ℕ) → k < length order → i ≡ get_or order k 0 → i < 256 → Counted (take k order) ps → Counted (take (k + 1) order) (slice_set ps i (get_or ps i 0 + 1))
counted_at order ps k i short is small h =
    subst (λ (w : List ℕ). Counted w (slice_set ps i (get_or ps i 0 + 1))) (ap (λ (j : ℕ). take k order ++ (j ∷ [])) is ∙ sym (take_more order k 0 short)) (counted_push (take k order) ps i small h)

-- no instance is listed more often than instances are
pub pos_few : (h : List ℕ) (i : ℕ) → pos h i ≤ length h
pos_few [] i = omega arith
pos_few (x ∷ h) i = let r = pos_few h i in let c = one_or_none (x == i) in omega arith
  where
    one_or_none : (b : Bool) → cond b 1 0 ≤ 1
    one_or_none true = omega arith
    one_or_none false = omega arith
