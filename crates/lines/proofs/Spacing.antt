-- Words that are written one after another.
use Rattle.std.proofs.Common.{◌≡◌, ℕ, ◌+◌, ◌<◌, List, [], ◌∷◌, ◌++◌, length, get_or, take, map, codes, refl, ap, sym, ◌∙◌}
use Rattle.std.proofs.lemmas.List.{append_assoc, take_more, map-append}
use Rattle.charts.specs.Texts.{spaced}

-- one word more, after a space
pub spaced_last : (w : List ℕ) (ws : List (List ℕ)) (v : List ℕ) → spaced (w ∷ (ws ++ v ∷ [])) ≡ spaced (w ∷ ws) ++ (codes " " ++ v)
spaced_last w [] v = refl
spaced_last w (u ∷ ws) v =
    ap (λ bs. w ++ (codes " " ++ bs)) (spaced_last u ws v) ∙ ap (λ bs. w ++ bs) (sym (append_assoc (codes " ") (spaced (u ∷ ws)) (codes " " ++ v)))
    ∙ sym (append_assoc w (codes " " ++ spaced (u ∷ ws)) (codes " " ++ v))

-- the word of one item more
pub spaced_more : {X : Type 0} (f : X → List ℕ) (w : List ℕ) (xs : List X) (k : ℕ) (d : X) → k < length xs →
    spaced (w ∷ map f (take (k + 1) xs)) ≡ spaced (w ∷ map f (take k xs)) ++ (codes " " ++ f (get_or xs k d))
spaced_more f w xs k d l =
    ap (λ ys. spaced (w ∷ map f ys)) (take_more xs k d l)
    ∙ ap (λ ws. spaced (w ∷ ws)) (map-append f (take k xs) (get_or xs k d ∷ []))
    ∙ spaced_last w (map f (take k xs)) (f (get_or xs k d))
