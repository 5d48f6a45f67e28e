-- A scan finds the first event that breaks its rule.
use Rattle.std.proofs.Common.{◌≡◌, ℕ, zero, suc, ◌+◌, ◌<◌, ◌≤◌, List, [], ◌∷◌, length, get_or, drop, Some, None, Option, refl, ap, ◌∙◌, subst, arith}
use Rattle.std.proofs.lemmas.List.{at_drop_more, at_drop_all}
use Rattle.charts.specs.declared.parts.Event.{Event}
use Rattle.charts.specs.Events.{no_event}
use Rattle.checks.specs.Cut.{instance_of, index_of}
use Rattle.checks.specs.Checked.{table_fault, blamed, scan}
use Rattle.checks.proofs.Chosen.{or_else_none, none_or_else, some_or_else, some_none}

module _ (rule : ℕ → Event → Option ℕ) (ns : List ℕ) where
  blamed_none : (k : ℕ) (o : Option ℕ) → blamed ns k o ≡ None → o ≡ None
  blamed_none k None e = refl
  blamed_none k (Some n) e = some_none _ e

  pub scan_none : (k : ℕ) (es : List Event) → ((p : ℕ) → p < length es → rule (k + p) (get_or es p no_event) ≡ None) → scan rule ns k es ≡ None
  scan_none k [] h = refl
  scan_none k (e ∷ es) h =
      let z : k + 0 ≡ k = omega arith in
      let first : rule k e ≡ None = subst (λ (x : ℕ). rule x e ≡ None) z (h zero (omega arith)) in
      none_or_else (blamed ns k (rule k e)) _ (ap (blamed ns k) first) ∙
      scan_none (suc k) es (λ p l. let s : k + suc p ≡ suc k + p = omega arith in subst (λ (x : ℕ). rule x (get_or es p no_event) ≡ None) s (h (suc p) (omega arith)))

  pub none_scan : (k : ℕ) (es : List Event) → scan rule ns k es ≡ None → (p : ℕ) → p < length es → rule (k + p) (get_or es p no_event) ≡ None
  none_scan k [] e p l = absurd (omega arith)
  none_scan k (x ∷ es) e zero l =
      let z : k ≡ k + 0 = omega arith in
      subst (λ (y : ℕ). rule y x ≡ None) z (blamed_none k (rule k x) (or_else_none (blamed ns k (rule k x)) _ e).0)
  none_scan k (x ∷ es) e (suc p) l =
      let s : suc k + p ≡ k + suc p = omega arith in
      subst (λ (y : ℕ). rule y (get_or es p no_event) ≡ None) s (none_scan (suc k) es (or_else_none (blamed ns k (rule k x)) _ e).1 p (omega arith))

  -- one event keeps the rule
  pub scan_pass : (es : List Event) (k : ℕ) → k < length es → rule k (get_or es k no_event) ≡ None → scan rule ns k (drop k es) ≡ scan rule ns (k + 1) (drop (k + 1) es)
  scan_pass es k h e =
      at_drop_more (scan rule ns k) es k no_event h ∙
      none_or_else (blamed ns k (rule k (get_or es k no_event))) _ (ap (blamed ns k) e) ∙
      (let b : suc k ≡ k + 1 = omega arith in ap (λ (x : ℕ). scan rule ns x (drop (k + 1) es)) b)

  -- one event breaks it
  pub scan_stop : (es : List Event) (k n : ℕ) → k < length es → rule k (get_or es k no_event) ≡ Some n → scan rule ns k (drop k es) ≡ Some (table_fault n (instance_of ns k) (index_of ns k))
  scan_stop es k n h e =
      at_drop_more (scan rule ns k) es k no_event h ∙
      some_or_else (blamed ns k (rule k (get_or es k no_event))) _ (table_fault n (instance_of ns k) (index_of ns k)) (ap (blamed ns k) e)

  -- no event is left
  pub scan_end : (es : List Event) (k : ℕ) → length es ≤ k → scan rule ns k (drop k es) ≡ None
  scan_end es k h = at_drop_all (scan rule ns k) es k h
