-- Where a text is cut first, by the place of its first separator.
use Rattle.std.proofs.Common.{◌≡◌, ℕ, ◌+◌, false, not, eqb, ltb, List, [], ◌∷◌, length, take, drop, Some, None, inl, inr, sym, ap, ◌∙◌, arith}
use Rattle.std.specs.List.{position, position_or_len}
use Rattle.std.proofs.lemmas.List.Elements.{All-from_get_or}
use Rattle.std.proofs.lemmas.List.Splits.{slice_split_first, slice_split_none}
use Rattle.std.proofs.lemmas.List.Sums.{prefix_len_passes}
use Rattle.std.proofs.lemmas.Bool.{cases_lt, cond-true, cond-false, le-ltb, lt-ltb, not-true}
use Rattle.tabletexts.specs.Pieces.{pieces}

module _ (s : ℕ) (text : List ℕ) where
  abbrev place : ℕ
  place = position_or_len (λ b. eqb b s) text

  pub cut_none : None ≡ position (λ b. eqb b s) text → pieces s text ≡ text ∷ []
  cut_none e =
      elim (cases_lt place (length text)) [
        | inl l ↦ absurd (let there = cond-true (ltb place (length text)) (Some place) None (lt-ltb place (length text) l) in let z : ◌≡◌ {A = ℕ} 0 1 = cc in omega arith)
        | inr l ↦ slice_split_none (λ b. eqb b s) text (All-from_get_or (λ x. eqb x s ≡ false) text 0 (λ i h. not-true _ (prefix_len_passes (λ b. not (eqb b s)) text i 0 (omega arith))))
      ]

  pub cut_some : (i : ℕ) → Some i ≡ position (λ b. eqb b s) text → pieces s text ≡ take i text ∷ pieces s (drop (i + 1) text)
  cut_some i e =
      elim (cases_lt place (length text)) [
        | inl l ↦
            let there = cond-true (ltb place (length text)) (Some place) None (lt-ltb place (length text) l) in
            let same : i ≡ place = cc in
            slice_split_first (λ b. eqb b s) text 0 l ∙ ap (λ n. take n text ∷ pieces s (drop (n + 1) text)) (sym same)
        | inr l ↦ absurd (let nowhere = cond-false (ltb place (length text)) (Some place) None (le-ltb place (length text) l) in let z : ◌≡◌ {A = ℕ} 0 1 = cc in omega arith)
      ]
