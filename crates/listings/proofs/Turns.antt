-- The items of a list, written one after another.
use Rattle.std.proofs.Common.{◌≡◌, ℕ, suc, ◌+◌, ◌<◌, List, [], ◌∷◌, ◌++◌, length, get_or, take, sym, refl, ap, ◌∙◌, append_assoc, append-nil, arith}
use Rattle.std.proofs.lemmas.List.{length-take-le, take_more}
use Rattle.std.proofs.Output.{has_written_append, has_written_of_eq}
use Rattle.std.specs.Fmt.{HasWritten}
use Rattle.std.specs.declared.fmt.Formatter.{Formatter}
use Rattle.charts.specs.declared.parts.Event.{Event}
use Rattle.charts.specs.Events.{no_event}
use Rattle.listings.specs.Lines.{event_line}
use Rattle.listings.specs.Report.{event_lines, instance_lines, line}

-- item k is written as `one k`, and items as `all k`, where the first of them is item k
module _ {X : Type 0} (one : ℕ → X → List ℕ) (all : ℕ → List X → List ℕ) (none : (k : ℕ) → all k [] ≡ []) (some : (k : ℕ) (x : X) (xs : List X) → all k (x ∷ xs) ≡ one k x ++ all (suc k) xs) where
  write_last : (k n : ℕ) (xs : List X) (x : X) → n ≡ k + length xs → all k (xs ++ x ∷ []) ≡ all k xs ++ one n x
  write_last k n [] x e =
      let same : n ≡ k = omega arith in
      some k x [] ∙ ap (λ bs. one k x ++ bs) (none (suc k)) ∙ append-nil (one k x) ∙ ap (λ m. one m x) (sym same) ∙ ap (λ bs. bs ++ one n x) (sym (none k))
  write_last k n (y ∷ ys) x e =
      some k y (ys ++ x ∷ []) ∙ ap (λ bs. one k y ++ bs) (write_last (suc k) n ys x (omega arith)) ∙ sym (append_assoc (one k y) (all (suc k) ys) (one n x)) ∙ ap (λ bs. bs ++ one n x) (sym (some k y ys))

  written_more : {W : Type 0} (took : W → List ℕ → W → Type 0) (f g h : Formatter W) (k : ℕ) (xs : List X) (d : X) →
      HasWritten took f (all 0 (take k xs)) g → HasWritten took g (one k (get_or xs k d)) h → k < length xs → HasWritten took f (all 0 (take (k + 1) xs)) h
  written_more took f g h k xs d p q l =
      let n = length-take-le k xs (omega arith) in
      let more = ap (all 0) (take_more xs k d l) ∙ write_last 0 k (take k xs) (get_or xs k d) (omega arith) in
      has_written_of_eq took f _ _ h (sym more) (has_written_append took f _ g _ h p q)

module _ {W : Type 0} (took : W → List ℕ → W → Type 0) (f g h : Formatter W) where
  -- one event more of instance i
  pub events_more : (i k : ℕ) (es : List Event) → HasWritten took f (event_lines i 0 (take k es)) g → HasWritten took g (line (event_line i k (get_or es k no_event))) h → k < length es → HasWritten took f (event_lines i 0 (take (k + 1) es)) h
  events_more i k es =
      written_more (λ k e. line (event_line i k e)) (event_lines i) (λ k. refl) (λ k e es. refl) took f g h k es no_event

  -- one instance more
  pub instances_more : (i : ℕ) (L : List (List Event)) → HasWritten took f (instance_lines 0 (take i L)) g → HasWritten took g (event_lines i 0 (get_or L i [])) h → i < length L → HasWritten took f (instance_lines 0 (take (i + 1) L)) h
  instances_more i L =
      written_more (λ i es. event_lines i 0 es) instance_lines (λ i. refl) (λ i es L. refl) took f g h i L []
