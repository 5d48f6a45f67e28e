-- The sizes and spans of moved lists.
use Rattle.std.proofs.Common.{◌≡◌, ℕ, suc, ◌+◌, ◌≤◌, max, Bool, true, false, cond, ◌⊎◌, List, [], ◌∷◌, ◌++◌, map, length, refl, inl, inr, arith}
use Rattle.std.proofs.lemmas.List.{length-map}
use Rattle.std.proofs.lemmas.List.Sums.{sum_by-cons}
use Rattle.charts.specs.declared.parts.Event.{Event}
use Rattle.charts.specs.Events.{is_message}
use Rattle.charts.specs.Lists.{size}
use Rattle.charts.specs.Span.{above, span_of, span}
use Rattle.joining.specs.Moves.{moved}

-- n is the span of some lists, and m the span once they are moved by s
abbrev pub Raised : ℕ → ℕ → ℕ → Type 0
Raised s n m = ((n ≡ 0) × (m ≡ 0)) ⊎ ((1 ≤ n) × (m ≡ s + n))

raised_max : (s a b c d : ℕ) → Raised s a c → Raised s b d → Raised s (max a b) (max c d)
raised_max s a b c d (inl x) (inl y) = inl (omega arith)
raised_max s a b c d (inl x) (inr y) = inr (omega arith)
raised_max s a b c d (inr x) (inl y) = inr (omega arith)
raised_max s a b c d (inr x) (inr y) = inr (omega arith)

module _ (f : ℕ → ℕ) (s : ℕ) where
  raised_above : (e : Event) (t : Bool) → is_message e ≡ t → Raised s (cond t (suc e.number) 0) (cond t (suc (cond t (e.number + s) e.number)) 0)
  raised_above e true y = inr (omega arith)
  raised_above e false y = inl (refl, refl)

  raised_column : (es : List Event) → Raised s (span_of es) (span_of (map (moved f s) es))
  raised_column [] = inl (refl, refl)
  raised_column (e ∷ es) =
      raised_max s (above e) (span_of es) (above (moved f s e)) (span_of (map (moved f s) es)) (raised_above e (is_message e) refl) (raised_column es)

  pub raised_span : (L : List (List Event)) → Raised s (span L) (span (map (map (moved f s)) L))
  raised_span [] = inl (refl, refl)
  raised_span (es ∷ L) =
      raised_max s (span_of es) (span L) (span_of (map (moved f s) es)) (span (map (map (moved f s)) L)) (raised_column es) (raised_span L)

  pub moved_size : (L : List (List Event)) → size (map (map (moved f s)) L) ≡ size L
  moved_size [] = refl
  moved_size (es ∷ L) =
      let a = sum_by-cons length (map (moved f s) es) (map (map (moved f s)) L) in
      let b = sum_by-cons length es L in
      let c = length-map es (moved f s) in
      let d = moved_size L in
      omega arith

-- the span of one list after another
pub span_of_append : (es fs : List Event) → span_of (es ++ fs) ≡ max (span_of es) (span_of fs)
span_of_append [] fs = omega arith
span_of_append (e ∷ es) fs = let r = span_of_append es fs in omega arith

pub span_append : (L K : List (List Event)) → span (L ++ K) ≡ max (span L) (span K)
span_append [] K = omega arith
span_append (es ∷ L) K = let r = span_append L K in omega arith
