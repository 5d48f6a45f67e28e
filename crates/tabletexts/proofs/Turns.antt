-- One turn of a loop that reads the pieces of a text, with what was read before them.
use Rattle.std.proofs.Common.{◌≡◌, ℕ, ◌+◌, ◌<◌, true, false, cond, eqb, inl, inr, List, [], ◌∷◌, ◌++◌, length, get_or, drop, is_some, Some, None, Ok, Err, Option, unwrap_or, Result, sym, refl, ap, ◌∙◌, append_assoc, append-nil, arith, Bor}
use Rattle.std.specs.List.{enumerate_from, onto_first}
use Rattle.std.specs.Option.{ok_or}
use Rattle.std.proofs.lemmas.List.{drop_all, drop_more}
use Rattle.std.proofs.lemmas.List.FromFn.{get_or-enumerate_from, length-enumerate_from}
use Rattle.tabletexts.specs.Outcome.{then}
use Rattle.tabletexts.specs.Pieces.{pieces, pieces_after}
use Rattle.tabletexts.specs.Table.{FirstLine, number_in, lengths_in, lines, event_in, event_on, events_from}

-- p is the next piece, behind k of them
pub record Next (ps : List (List ℕ)) (k : ℕ) (p : List ℕ) : Type 0 where
  pub is : drop k ps ≡ p ∷ drop (k + 1) ps

pub next_piece : (ps : List (List ℕ)) (k : ℕ) (p : List ℕ) → (k < length ps) × (p ≡ get_or ps k p) → Next ps k p
next_piece ps k p turn = record { is = drop_more ps k p turn.0 ∙ ap (λ q. q ∷ drop (k + 1) ps) (sym turn.1) }

-- the same of pieces with their indices
pub next_numbered : (ps : List (List ℕ)) (k i : ℕ) (p : List ℕ) → (k < length (enumerate_from 0 ps)) × (◌≡◌ {A = ℕ × List ℕ} (i, p) (get_or (enumerate_from 0 ps) k (i, p))) → (i ≡ k) × Next ps k p
next_numbered ps k i p turn =
    let within : k < length ps = (let l = turn.0 in omega (arith, length-enumerate_from 0 ps)) in
    let at = turn.1 ∙ get_or-enumerate_from 0 ps k (i, p) within in
    let index : i ≡ 0 + k = ap (λ (q : ℕ × List ℕ). q.0) at in
    (omega arith, next_piece ps k p (within, ap (λ (q : ℕ × List ℕ). q.1) at))

-- what was read, before what is still to be read
abbrev pub onto : {X : Type 0} → List X → Result (List X) ℕ → Result (List X) ℕ
onto xs r = then ◌++◌ (Ok xs) r

onto_more : {X : Type 0} (xs : List X) (x : X) (r : Result (List X) ℕ) → onto xs (then ◌∷◌ (Ok x) r) ≡ onto (xs ++ x ∷ []) r
onto_more xs x (Ok ys) = ap Ok (sym (append_assoc xs (x ∷ []) ys))
onto_more xs x (Err n) = refl

-- the fields fs of the first line, of which k were read as xs
module _ (says : Result (List ℕ) ℕ) (xs : List ℕ) (fs : List (List ℕ)) (k : ℕ) (inv : onto xs (lengths_in (drop k fs)) ≡ says) where
  pub lengths_end : k ≡ length fs → says ≡ Ok xs
  lengths_end e =
      sym inv ∙ ap (λ gs. onto xs (lengths_in gs)) (drop_all k fs (omega arith)) ∙ ap Ok (append-nil xs)

  -- the next field
  module _ (f : List ℕ) (next : Next fs k f) where
    pub lengths_stop : None ≡ number_in 65535 f → says ≡ Err 1
    lengths_stop none =
        sym inv ∙ ap (λ gs. onto xs (lengths_in gs)) next.is ∙ ap (λ o. onto xs (then ◌∷◌ (ok_or o 1) (lengths_in (drop (k + 1) fs)))) (sym none)

    pub lengths_more : (x : ℕ) (ys : List ℕ) (n : ℕ) → Some x ≡ number_in 65535 f → ys ≡ xs ++ x ∷ [] → n ≡ k + 1 → onto ys (lengths_in (drop n fs)) ≡ says
    lengths_more x ys n number push more =
        ap (λ m. onto ys (lengths_in (drop m fs))) more
        ∙ ap (λ zs. onto zs (lengths_in (drop (k + 1) fs))) push
        ∙ sym (onto_more xs x (lengths_in (drop (k + 1) fs)))
        ∙ ap (λ o. onto xs (then ◌∷◌ (ok_or o 1) (lengths_in (drop (k + 1) fs)))) number
        ∙ ap (λ gs. onto xs (lengths_in gs)) (sym next.is)
        ∙ inv

-- a line that is not empty has an event
pub some_line : (n : ℕ) (l : List ℕ) (ls : List (List ℕ)) → 0 < length l → events_from n (l ∷ ls) ≡ then ◌∷◌ (ok_or (event_on l) n) (events_from (n + 1) ls)
some_line n [] ls h = absurd (omega arith)
some_line n (b ∷ bs) ls h = refl

-- the first line of a text, as `cut` gives it
pub first_line : (text line : List ℕ) (o : Option (Bor (List ℕ))) (rest none : Bor (List ℕ)) → lines text ≡ line ∷ pieces_after 10 o → rest ≡ unwrap_or o none → none.now ≡ [] → FirstLine text line rest.now
first_line text line None rest none cut is empty = inr (cut, ap (λ (r : Bor (List ℕ)). r.now) is ∙ empty)
first_line text line (Some more) rest none cut is empty = inl (cut ∙ ap (λ (r : Bor (List ℕ)). line ∷ lines r.now) (sym is))

-- a text has a piece at least
pub some_piece : (s : ℕ) (text : List ℕ) → (p : List ℕ) × (ps : List (List ℕ)) × (pieces s text ≡ p ∷ ps)
some_piece s [] = ([], [], refl)
some_piece s (b ∷ bs) =
    elim (eqb b s) as (λ t. (p : List ℕ) × (ps : List (List ℕ)) × (cond t ([] ∷ pieces s bs) (onto_first b (pieces s bs)) ≡ p ∷ ps)) [
      | true ↦ ([], pieces s bs, refl)
      | false ↦ let h = some_piece s bs in (b ∷ h.0, h.1, ap (onto_first b) h.2)
    ]

-- four fields or more are no event
pub four_fields : (k p n : List ℕ) (s : ℕ) (o : Option (Bor (List ℕ))) → is_some o ≡ true → event_in (k ∷ p ∷ n ∷ pieces_after s o) ≡ None
four_fields k p n s None h = absurd (let z : ◌≡◌ {A = ℕ} 0 1 = cc in omega arith)
four_fields k p n s (Some rest) h = ap (λ (fs : List (List ℕ)). event_in (k ∷ p ∷ n ∷ fs)) (some_piece s rest.now).2
