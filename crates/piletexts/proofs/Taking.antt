-- Taking the first line off a text.
use Rattle.std.proofs.Common.{◌≡◌, ℕ, ◌<◌, true, false, cond, eqb, List, [], ◌∷◌, length, Some, None, Option, unwrap_or, sym, refl, ap, ◌∙◌, arith, Bor}
use Rattle.std.specs.List.{onto_first}
use Rattle.tabletexts.specs.Pieces.{pieces, pieces_after}
use Rattle.tabletexts.proofs.Turns.{some_piece}
use Rattle.piletexts.specs.Lines.{closed, lines_of}

-- only the empty text has the empty piece alone
single : (text p : List ℕ) → 0 < length text → pieces 10 text ≡ p ∷ [] → closed (p ∷ []) ≡ p ∷ []
single text (b ∷ bs) h e = refl
single [] [] h e = absurd (omega arith)
single (b ∷ bs) [] h e =
    let q = some_piece 10 bs in
    let more : pieces 10 bs ≡ q.0 ∷ q.1 = q.2 in
    elim (eqb b 10) as (λ t. cond t ([] ∷ pieces 10 bs) (onto_first b (pieces 10 bs)) ≡ [] ∷ [] → closed ([] ∷ []) ≡ [] ∷ []) [
      | true ↦ λ f. absurd (let z : ◌≡◌ {A = ℕ} 0 1 = cc in omega arith)
      | false ↦ λ f. absurd (let g = ap (onto_first b) more in let z : ◌≡◌ {A = ℕ} 0 1 = cc in omega arith)
    ] e

closed_more : (p : List ℕ) (text : List ℕ) → closed (p ∷ pieces 10 text) ≡ p ∷ lines_of text
closed_more p text =
    let q = some_piece 10 text in
    ap (λ (ps : List (List ℕ)). closed (p ∷ ps)) q.2 ∙ ap (λ (ps : List (List ℕ)). p ∷ closed ps) (sym q.2)

-- a line is taken off, with what is behind it, the empty text where no line feed ends it
pub line_taken : (text p : List ℕ) (o : Option (Bor (List ℕ))) (rest none : Bor (List ℕ)) → 0 < length text → pieces 10 text ≡ p ∷ pieces_after 10 o →
    rest ≡ unwrap_or o none → none.now ≡ [] → lines_of text ≡ p ∷ lines_of rest.now
line_taken text p None rest none h e is z =
    ap closed e ∙ single text p h e ∙ ap (λ (t : List ℕ). p ∷ lines_of t) (sym (ap (λ (r : Bor (List ℕ)). r.now) is ∙ z))
line_taken text p (Some more) rest none h e is z =
    ap closed e ∙ closed_more p more.now ∙ ap (λ (r : Bor (List ℕ)). p ∷ lines_of r.now) (sym is)
